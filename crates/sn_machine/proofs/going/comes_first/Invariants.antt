use Rattle.std.proofs.Common.{◌≡◌, ◌<◌, ℕ, true, false, get_or, length}
use Rattle.sn_mem.specs.Words.{Clash}
use Rattle.sn_round.specs.Jobs.{Ordered, foot_at}
use Rattle.sn_machine.proofs.going.comes_first.Given as goal

-- what the row says of the jobs so far is so, and with those of them that clash it is ordered
abbrev pub invariant-loop-second : goal.invariant-loop-second
invariant-loop-second l = record {
  long : length l.later ≡ length l.plan;
  row : (j : ℕ) → l.first < j → j < l.second → get_or l.later j false ≡ true → Ordered l.plan l.first j;
  clashes : (j : ℕ) → l.first < j → j < l.second → Clash (foot_at l.plan l.first) (foot_at l.plan j) → Ordered l.plan l.first j;
}
