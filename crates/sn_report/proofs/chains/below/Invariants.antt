-- The jobs so far, and those that are left.
use Rattle.std.proofs.Common.{◌≡◌, ◌++◌}
use Rattle.sn_report.specs.Certificates.{below}
use Rattle.sn_report.proofs.chains.below.Given as goal

abbrev pub invariant-loop-left : goal.invariant-loop-left
invariant-loop-left l = l.all.items ++ below l.left ≡ below l.jobs

abbrev pub decreases-loop-left : goal.decreases-loop-left
decreases-loop-left l = l.left
