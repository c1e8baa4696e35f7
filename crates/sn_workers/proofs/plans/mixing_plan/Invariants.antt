use Rattle.sn_round.specs.Jobs.{AreJobs}
use Rattle.sn_workers.proofs.plans.mixing_plan.Given as goal

abbrev pub invariant-loop-number : goal.invariant-loop-number
invariant-loop-number l = AreJobs l.jobs.items
