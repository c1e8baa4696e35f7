-- The first of the greatest of the jobs so far, from the last on.
use Rattle.std.proofs.Common.{◌≡◌, ◌≤◌, drop, length}
use Rattle.sn_report.specs.Tracing.{first_greatest}
use Rattle.sn_report.proofs.chains.first_greatest.Given as goal

abbrev pub invariant-loop-left : goal.invariant-loop-left
invariant-loop-left l = record {
  within : l.left ≤ length l.jobs;
  best : l.best ≡ first_greatest l.levels (drop l.left l.jobs);
}

abbrev pub decreases-loop-left : goal.decreases-loop-left
decreases-loop-left l = l.left
