use Rattle.std.proofs.Common.{◌≡◌, take}
use Rattle.sn_round.proofs.plan.copied_jobs.Given as goal

abbrev pub invariant-loop-job : goal.invariant-loop-job
invariant-loop-job l = l.copy.items ≡ take l.job-index l.jobs
