use Rattle.std.proofs.Common.{◌<◌, ℕ, length}
use Rattle.sn_mem.specs.Words.{Clash}
use Rattle.sn_round.specs.Jobs.{Ordered, foot_at}
use Rattle.sn_machine.proofs.going.is_race_free.Given as goal

abbrev pub invariant-loop-first : goal.invariant-loop-first
invariant-loop-first l = (i j : ℕ) → i < l.first → i < j → j < length l.plan → Clash (foot_at l.plan i) (foot_at l.plan j) → Ordered l.plan i j
