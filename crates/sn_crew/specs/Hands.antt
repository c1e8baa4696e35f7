-- What a worker has.
use Rattle.std.specs.Prelude.{ℕ, Option, Some, None, length}
use Rattle.sn_table.specs.declared.seats.WorkerSeat.{WorkerSeat}
use Rattle.sn_crew.specs.declared.hands.Hand.{Hand}

-- how many deques it sees
abbrev pub deques_of : Hand → ℕ
deques_of hand = length hand.member.hints.counts.items

-- the seat is there, and this holds of it
abbrev pub Seated : (WorkerSeat → Type 0) → Option WorkerSeat → Type 0
Seated P None = ⊥
Seated P (Some seat) = P seat
