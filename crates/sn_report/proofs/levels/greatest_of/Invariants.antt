-- The greatest so far, and that of the jobs that are left.
use Rattle.std.proofs.Common.{◌≡◌, drop}
use Rattle.std.specs.Prelude.{max}
use Rattle.sn_report.specs.Certificates.{greatest_of}
use Rattle.sn_report.proofs.levels.greatest_of.Given as goal

abbrev pub invariant-loop-job : goal.invariant-loop-job
invariant-loop-job l = max l.greatest (greatest_of l.levels (drop l.job-index l.jobs)) ≡ greatest_of l.levels l.jobs
