use Rattle.std.proofs.Common.{◌≡◌, drop}
use Rattle.sn_world.specs.Answers.{Continues}
use Rattle.sn_world.specs.Freeing.{told_ends}
use Rattle.sn_world.specs.World.{World, Turn}
use Rattle.sn_nodecmd.proofs.telling.tell_ends.Given as goal

abbrev pub invariant-loop-id : goal.invariant-loop-id
invariant-loop-id l = record {
  told : (w : World) → w.notify ≡ l.flags → told_ends (drop l.id-index l.ended) (let t : Turn = record { world = w; replies = l.replies } in t) ≡ told_ends l.ended (let t : Turn = record { world = w; replies = l.fn.replies } in t);
  continues : Continues l.fn.replies l.replies;
}
