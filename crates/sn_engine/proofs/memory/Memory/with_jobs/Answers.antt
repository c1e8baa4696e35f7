use Rattle.std.proofs.Common.{refl, sym, subst, arith, ◌∙◌}
use Rattle.sn_machine.specs.States.{IsIdle, memory_in}
use Rattle.sn_engine.proofs.memory.Memory.with_jobs.Goals as goal

pub open-requires-clause-words : goal.open-requires-clause-words
open-requires-clause-words c = c.requires.words

pub open-requires-clause-jobs : goal.open-requires-clause-jobs
open-requires-clause-jobs c = omega (arith, c.requires.jobs)

pub returns : goal.returns
returns c = let v = c.in_ok-shared.ensures.3 in λ i. record { words = memory_in (v i).main.phase; rounds = (v i).main.rested; stores = (v i).main.stores }

pub invariant_of-result : goal.invariant_of-result
invariant_of-result c = (c.in_ok-shared.ensures.2, subst IsIdle (sym c.in_ok-shared.ensures.3) refl, c.in_ok-shared.ensures.1 ∙ c.requires.jobs)
