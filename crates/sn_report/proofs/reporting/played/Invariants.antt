use Rattle.std.proofs.Common.{◌≡◌, ◌++◌, drop}
use Rattle.sn_report.specs.Certificates.{played}
use Rattle.sn_report.proofs.reporting.played.Given as goal

abbrev pub invariant-loop-job : goal.invariant-loop-job
invariant-loop-job l = l.ids ++ played l.plan (drop l.job-index l.chain) ≡ played l.plan l.chain
