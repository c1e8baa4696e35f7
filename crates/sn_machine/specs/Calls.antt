-- What the calls of the interpreter tell.
use Rattle.std.specs.Prelude.{◌≡◌, ◌≢◌, ℕ, ◌+◌, ◌-◌, Bool, true, false, nat_le, List, ◌++◌, Option, Some, None, take, drop, slice_index_or, slice_set}
use Rattle.sn_mem.specs.declared.extents.Extent.{Extent}
use Rattle.sn_machine.specs.declared.views.View.{View}
use Rattle.sn_machine.specs.declared.views.RunningJob.{RunningJob}
use Rattle.sn_machine.specs.declared.views.Phase.{Phase}
use Rattle.sn_machine.specs.declared.views.Phase.TheVariants.{Idle, Round}
use Rattle.sn_machine.specs.declared.machine.Machine.{Machine}
use Rattle.sn_machine.specs.States.{State, At}
use Rattle.sn_machine.specs.Steps.{CanJoin, after_join}

-- the state that a machine is in
abbrev pub state_of : Machine → State
state_of m = record { memory = m.memory; counts = m.counts; views = m.views.items }

-- The seat i is asked for a step. Either its view allows the step, and the state after it is this, or nothing changes.
abbrev pub Takes : State → ℕ → (View → Type 0) → (View → State) → Bool → State → Type 0
Takes s i allows after false t = t ≡ s
Takes s i allows after true t = (v : View) × At s.views i v × allows v × (t ≡ after v)

-- the debt with this number, and those beside it
abbrev pub debt_at : View → ℕ → ℕ × ℕ
debt_at v number = slice_index_or v.worker.debts number (0, 0)

abbrev pub front_of : View → ℕ → List (ℕ × ℕ)
front_of v number = take number v.worker.debts

abbrev pub back_of : View → ℕ → List (ℕ × ℕ)
back_of v number = drop (number + 1) v.worker.debts

-- the extent ends at or below this place
abbrev pub ends_below : ℕ → Extent → Bool
ends_below size e = nat_le (e.at + e.len) size

-- a worker whose picture has the word a at x, if it runs a job
abbrev pub painted_run : Option RunningJob → ℕ → ℕ → Option RunningJob
painted_run None x a = None
painted_run (Some r) x a = Some (record r { picture = slice_set r.picture x a })

abbrev pub painted : View → ℕ → ℕ → View
painted v x a = record v { worker = record v.worker { runs = painted_run v.worker.runs x a } }

-- what main knows between two rounds, after a store to a memory word or to a job word
abbrev pub set_memory_in : Phase → ℕ → ℕ → Phase
set_memory_in (Idle memory counts) x a = Idle (slice_set memory x a) counts
set_memory_in (Round jobs script crew at_go) x a = Round jobs script crew at_go

abbrev pub set_count_in : Phase → ℕ → ℕ → Phase
set_count_in (Idle memory counts) j a = Idle memory (slice_set counts j a)
set_count_in (Round jobs script crew at_go) j a = Round jobs script crew at_go

-- main, after it joined a worker's seat that knows these jobs to have ended
abbrev pub learned : View → List ℕ → View
learned v ended = record v { main = record v.main { live = v.main.live - 1; joined = true; ended = v.main.ended ++ ended } }

-- the same for two seats: main's, and one that it joins
abbrev pub Joins : State → ℕ → Bool → State → Type 0
Joins s other false t = t ≡ s
Joins s other true t = (m : View) × (w : View) × At s.views 0 m × (other ≢ 0) × At s.views other w × CanJoin w × (t ≡ after_join s m other w)
