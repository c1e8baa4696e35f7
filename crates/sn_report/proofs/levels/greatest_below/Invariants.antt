-- The greatest level of the jobs so far.
use Rattle.std.proofs.Common.{◌≡◌}
use Rattle.sn_report.specs.Certificates.{below, greatest_of}
use Rattle.sn_report.proofs.levels.greatest_below.Given as goal

abbrev pub invariant-loop-job : goal.invariant-loop-job
invariant-loop-job l = l.greatest ≡ greatest_of l.levels (below l.job)
