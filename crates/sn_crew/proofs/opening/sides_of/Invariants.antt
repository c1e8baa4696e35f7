use Rattle.std.proofs.Common.{◌≡◌, ◌+◌, length, All}
use Rattle.sn_crew.proofs.opening.sides_of.Given as goal

abbrev pub invariant-loop-place : goal.invariant-loop-place
invariant-loop-place l = (length l.sides.items ≡ l.place) × All (λ side. length side.others.items + 1 ≡ length l.deques) l.sides.items
