use Rattle.std.proofs.Common.{◌≡◌, ◌+◌, length}
use Rattle.sn_crew.proofs.opening.others_of.Given as goal

abbrev pub invariant-loop-k : goal.invariant-loop-k
invariant-loop-k l = length l.others.items ≡ l.k

abbrev pub invariant-loop-k-2 : goal.invariant-loop-k-2
invariant-loop-k-2 l = length l.others.items + 1 ≡ l.k
