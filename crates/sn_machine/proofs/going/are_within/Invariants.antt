use Rattle.std.proofs.Common.{◌≡◌, ◌<◌, ℕ, true}
use Rattle.sn_mem.specs.Words.{touches}
use Rattle.sn_round.specs.Jobs.{foot_at}
use Rattle.sn_machine.proofs.going.are_within.Given as goal

abbrev pub invariant-loop-job : goal.invariant-loop-job
invariant-loop-job l = (j x : ℕ) → j < l.job → touches (foot_at l.plan j) x ≡ true → x < l.size
