-- What is made is made of the same jobs.
use Rattle.std.proofs.Common.{◌≡◌, ◌≤◌}
use Rattle.sn_engine.specs.Planning.{AreSpanned}
use Rattle.sn_engine.proofs.planning.Planned.unroll.Given as goal

abbrev pub invariant-loop-left : goal.invariant-loop-left
invariant-loop-left l = record {
  few : l.left ≤ l.blocks;
  jobs : l.self.jobs ≡ l.fn.self.jobs;
  quiet : l.self.quiet ≡ l.fn.self.quiet;
  eventful : l.self.eventful ≡ l.fn.self.eventful;
  spanned : AreSpanned l.self.jobs l.outputs l.copies l.self.spans.items;
}

abbrev pub decreases-loop-left : goal.decreases-loop-left
decreases-loop-left l = l.left
