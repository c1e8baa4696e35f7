-- A seat that a thread has.
use Rattle.std.specs.Prelude.{Option, Some, None}
use Rattle.sn_table.specs.declared.seats.WorkerSeat.{WorkerSeat}

-- the seat is there, and this holds of it
abbrev pub Seated : (WorkerSeat → Type 0) → Option WorkerSeat → Type 0
Seated P None = ⊥
Seated P (Some seat) = P seat
