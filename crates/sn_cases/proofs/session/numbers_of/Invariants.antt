-- No number so far is above the most.
use Rattle.std.proofs.Common.{◌≤◌, ℕ, All}
use Rattle.sn_ports.specs.Limits.{most_ticks}
use Rattle.sn_cases.proofs.session.numbers_of.Given as goal

abbrev pub invariant-loop-number : goal.invariant-loop-number
invariant-loop-number l = All (λ (n : ℕ). n ≤ most_ticks) l.numbers.items
