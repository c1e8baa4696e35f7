-- What comes before the jobs that are left makes the chain whole.
use Rattle.std.proofs.Common.{◌≤◌, ◌++◌, ℕ, List, length, reverse}
use Rattle.sn_report.specs.Tracing.{Comes, ceiling}
use Rattle.sn_report.proofs.chains.traced_back.Given as goal

abbrev pub invariant-loop-job : goal.invariant-loop-job
invariant-loop-job l = record {
  within : ceiling l.rest ≤ length l.plan;
  on : (front : List ℕ) → Comes l.plan l.levels l.rest front → Comes l.plan l.levels l.jobs (front ++ reverse l.chain.items);
}

abbrev pub decreases-loop-job : goal.decreases-loop-job
decreases-loop-job l = ceiling l.rest
