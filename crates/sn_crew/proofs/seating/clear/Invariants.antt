use Rattle.std.proofs.Common.{◌≡◌, length, All}
use Rattle.sn_crew.specs.Hands.{deques_of}
use Rattle.sn_crew.proofs.seating.clear.Given as goal

abbrev pub invariant-loop-k : goal.invariant-loop-k
invariant-loop-k l = All (λ hand. deques_of hand ≡ length l.fn.hands) l.hands
