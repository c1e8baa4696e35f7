use Rattle.std.proofs.Common.{◌≡◌, ◌<◌, ℕ, get_or, length}
use Rattle.sn_round.specs.Jobs.{predecessors}
use Rattle.sn_machine.proofs.going.are_armed.Given as goal

abbrev pub invariant-loop-job : goal.invariant-loop-job
invariant-loop-job l = (j : ℕ) → j < l.job → get_or l.counts j 0 ≡ length (predecessors l.plan j)
