use Rattle.std.proofs.Common.{◌≡◌, ◌+◌, length, All}
use Rattle.sn_crew.specs.Hands.{deques_of}
use Rattle.sn_crew.proofs.opening.open_hands.Given as goal

abbrev pub invariant-loop-own : goal.invariant-loop-own
invariant-loop-own l = (length l.sides.items ≡ length l.deques.items) × (length l.hands.items + length l.deques.items ≡ l.fn.workers) × All (λ side. length side.others.items + 1 ≡ l.fn.workers) l.sides.items × All (λ hand. deques_of hand ≡ l.fn.workers) l.hands.items

abbrev pub decreases-loop-own : goal.decreases-loop-own
decreases-loop-own l = length l.deques.items
