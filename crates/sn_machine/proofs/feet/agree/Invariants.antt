use Rattle.std.proofs.Common.{◌≡◌, ◌<◌, ℕ, true, get_or}
use Rattle.sn_mem.specs.Words.{writes}
use Rattle.sn_machine.proofs.feet.agree.Given as goal

abbrev pub invariant-loop-number : goal.invariant-loop-number
invariant-loop-number l = (x : ℕ) → x < l.number → writes l.foot x ≡ true → get_or l.some x 0 ≡ get_or l.others x 0
