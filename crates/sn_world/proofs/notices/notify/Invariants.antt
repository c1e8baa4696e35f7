-- What was told, and what the flags that are left tell.
use Rattle.std.proofs.Common.{◌≡◌, ◌++◌, drop, ◌≤◌, length}
use Rattle.sn_world.specs.Answers.{Continues}
use Rattle.sn_world.specs.Notices.{event_message, notices}
use Rattle.sn_world.proofs.notices.notify.Given as goal

abbrev pub invariant-loop-on : goal.invariant-loop-on
invariant-loop-on l = record {
  told : l.replies ++ notices l.client (drop l.on-index l.on-items) (event_message l.event l.id l.view) ≡ l.fn.replies ++ notices 0 l.on-items (event_message l.event l.id l.view);
  continues : Continues l.fn.replies l.replies;
  counted : l.client ≡ l.on-index;
  few : length l.on-items ≤ 4;
  same : l.on-items ≡ l.flags;
}
