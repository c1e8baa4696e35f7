use Rattle.sn_round.specs.Jobs.{AreJobs}
use Rattle.sn_calls.proofs.machines.random_plan.Given as goal

abbrev pub invariant-loop : goal.invariant-loop
invariant-loop l = AreJobs l.jobs.items
