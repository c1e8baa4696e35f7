use Rattle.std.proofs.Common.{◌≡◌, ◌<◌, length, All}
use Rattle.sn_crew.specs.Hands.{deques_of}
use Rattle.sn_crew.proofs.seating.deal.Given as goal

abbrev pub invariant-loop-job : goal.invariant-loop-job
invariant-loop-job l = (l.turn < length l.hands) × All (λ hand. deques_of hand ≡ length l.fn.hands) l.hands
