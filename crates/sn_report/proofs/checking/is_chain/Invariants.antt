-- The chain is one if it goes on with the jobs that are left.
use Rattle.std.proofs.Common.{◌≡◌, drop}
use Rattle.sn_report.specs.Certificates.{goes_on, is_chain}
use Rattle.sn_report.proofs.checking.is_chain.Given as goal

abbrev pub invariant-loop-job : goal.invariant-loop-job
invariant-loop-job l = goes_on l.plan l.before (drop l.job-index l.chain) ≡ is_chain l.plan l.chain
