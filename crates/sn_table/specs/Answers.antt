-- Whose seat it is, and what the calls return.
use Rattle.std.specs.Prelude.{◌≡◌, ◌≢◌, ℕ, ◌<◌, List, ◌∷◌}
use Rattle.sn_machine.specs.declared.views.View.{View}
use Rattle.std.specs.Prelude.{[]}
use Rattle.atomic_table.specs.declared.shared.Seat.{Seat as Place}
use Rattle.sn_machine.specs.Fits.{job_of}
use Rattle.sn_machine.specs.Steps.{got_view, paid_view, pictured, read_view}
use Rattle.sn_table.specs.declared.seats.Shared.{Shared}
use Rattle.sn_table.specs.declared.seats.MainSeat.{MainSeat}
use Rattle.sn_table.specs.declared.seats.WorkerSeat.{WorkerSeat}
use Rattle.sn_table.specs.declared.seats.Claim.{Claim}
use Rattle.sn_table.specs.declared.seats.Claim.TheVariants.{Got, Busy}
use Rattle.sn_table.specs.declared.seats.Release.{Release}
use Rattle.sn_table.specs.declared.seats.Release.TheVariants.{Ready, Held, NoMore}

-- what a worker knows
abbrev pub view : WorkerSeat → View
view seat = seat.place.me.0

abbrev pub main_view : MainSeat → View
main_view seat = seat.place.me.0

-- the seat is one of the table
abbrev pub IsSeatOf : Shared → WorkerSeat → Type 0
IsSeatOf shared seat = (seat.place.table_id ≡ shared.table.shared.table_id) × ((view seat).size ≡ shared.words) × ((view seat).room ≡ shared.jobs)

abbrev pub IsMainOf : Shared → MainSeat → Type 0
IsMainOf shared seat = (seat.place.table_id ≡ shared.table.shared.table_id) × ((main_view seat).size ≡ shared.words) × ((main_view seat).room ≡ shared.jobs)

-- the job was got by this step, or its word was not 0
abbrev pub Claimed : View → ℕ → Claim → View → Type 0
Claimed v job Got w = w ≡ got_view v job
Claimed v job (Busy word) w = (word ≢ 0) × (w ≡ read_view v job word)

-- the place of a seat except for its picture
abbrev pub rest_of : WorkerSeat → Place ℕ View
rest_of seat = record seat.place { me = (pictured (view seat) (job_of (view seat)) [], seat.place.me.1) }

abbrev pub IsGot : Claim → Type 0
IsGot Got = Unit {0}
IsGot (Busy word) = ⊥

abbrev pub IsPlaceOf : Shared → Place ℕ View → Type 0
IsPlaceOf shared place = (place.table_id ≡ shared.table.shared.table_id) × (place.me.0.size ≡ shared.words) × (place.me.0.room ≡ shared.jobs) × (place.me.1 ≡ [])

abbrev pub OwesFirst : View → ℕ → Type 0
OwesFirst v q = (p : ℕ) × (rest : List (ℕ × ℕ)) × (v.worker.debts ≡ (p, q) ∷ rest)

-- the first debt was paid, and 0 is left or more; or nothing is owed
abbrev pub Pays : View → ℕ → ℕ → View → Type 0
Pays v q left w = (p : ℕ) × (rest : List (ℕ × ℕ)) × (v.worker.debts ≡ (p, q) ∷ rest) × (w ≡ paid_view v q rest left)

abbrev pub Released : View → Release → View → Type 0
Released v (Ready job) w = Pays v job 0 w
Released v (Held left) w = (0 < left) × ((job : ℕ) × Pays v job left w)
Released v NoMore w = (v.worker.debts ≡ []) × (w ≡ v)

-- a successor that became ready has a job word
abbrev pub ReadyBelow : ℕ → Release → Type 0
ReadyBelow n (Ready job) = job < n
ReadyBelow n (Held left) = Unit {0}
ReadyBelow n NoMore = Unit {0}
