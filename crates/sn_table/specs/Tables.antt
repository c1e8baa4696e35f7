-- The rule of the table: its words are the memory and then the job words of a state of the round machine.
use Rattle.std.specs.Prelude.{◌≡◌, ℕ, ◌+◌, ◌-◌, ◌<◌, true, List, ◌∷◌, length, take, drop, replicate, slice_index, slice_set, Contains}
use Rattle.atomic_table.specs.Table.{Me, Step}
use Rattle.atomic_table.specs.Table as table
use Rattle.sn_mem.specs.Words.{touches}
use Rattle.sn_machine.specs.declared.views.View.{View}
use Rattle.sn_round.specs.declared.jobs.Job.{Job}
use Rattle.sn_machine.specs.Fits.{IsFree}
use Rattle.sn_machine.specs.Rule.{RoundHolds}
use Rattle.sn_machine.specs.States.{ENDED, RunsJob, State, memory_in, idle_main, no_worker}
use Rattle.sn_machine.specs.Steps.{claim_view, ended_view, go_view, paid_view, pictured, read_view, rested_view, set_count, set_memory}
use Rattle.sn_round.specs.Jobs.{foot_at}

-- the state of the machine that a table of m memory words shows
abbrev pub state_of : ℕ → table.State ℕ View → State
state_of m s = record { memory = take m s.words; counts = drop m s.words; views = s.views }

pub record TableHolds (m n : ℕ) (s : table.State ℕ View) : Type 0 where
  pub wide : length s.words ≡ m + n
  pub round : RoundHolds (state_of m s)

abbrev pub first_view : ℕ → ℕ → View
first_view m n = record { size = m; room = n; main = idle_main (replicate m 0) (replicate n 0); worker = no_worker }

-- what each step tells
abbrev pub claimed : Step ℕ → Me ℕ View → ℕ → Me ℕ View → Type 0
claimed st m found n = (n ≡ (claim_view m.0 (st.word - m.0.size) found, m.1)) × (m.0.worker.sweeps ≡ true → (IsFree m.0 (st.word - m.0.size) → found ≡ 0) × (found ≡ 0 → IsFree m.0 (st.word - m.0.size)))

-- a load of a running job finds the word of its picture
abbrev pub loaded : Step ℕ → Me ℕ View → ℕ → Me ℕ View → Type 0
loaded st m found n = (n ≡ m) × ((j : ℕ) (picture : List ℕ) → RunsJob m.0 j picture → touches (foot_at m.0.worker.jobs j) st.word ≡ true → found ≡ slice_index picture st.word)

abbrev pub stored : Step ℕ → Me ℕ View → ℕ → Me ℕ View → Type 0
stored st m found n = (j : ℕ) (picture : List ℕ) → RunsJob m.0 j picture → n ≡ (pictured m.0 j (slice_set picture st.word st.first), m.1)

abbrev pub ended : Step ℕ → Me ℕ View → ℕ → Me ℕ View → Type 0
ended st m found n = n ≡ (ended_view m.0 (st.word - m.0.size), m.1)

abbrev pub paid : Step ℕ → Me ℕ View → ℕ → Me ℕ View → Type 0
paid st m found n = (p q : ℕ) (rest : List (ℕ × ℕ)) → m.0.worker.debts ≡ (p, q) ∷ rest → (n ≡ (paid_view m.0 q rest (found - 1), m.1)) × (0 < found)

-- main's steps
abbrev pub wrote_memory : Step ℕ → Me ℕ View → ℕ → Me ℕ View → Type 0
wrote_memory st m found n = n ≡ (set_memory m.0 st.word st.first, m.1)

abbrev pub wrote_count : Step ℕ → Me ℕ View → ℕ → Me ℕ View → Type 0
wrote_count st m found n = n ≡ (set_count m.0 (st.word - m.0.size) st.first, m.1)

abbrev pub looked_idle : Step ℕ → Me ℕ View → ℕ → Me ℕ View → Type 0
looked_idle st m found n = (n ≡ m) × (st.word < m.0.size → found ≡ slice_index (memory_in m.0.main.phase) st.word)

abbrev pub went : List Job → List (List ℕ) → Step ℕ → Me ℕ View → ℕ → Me ℕ View → Type 0
went jobs script st m found n = n ≡ (go_view m.0 jobs script, m.1)

abbrev pub came_to_rest : Step ℕ → Me ℕ View → ℕ → Me ℕ View → Type 0
came_to_rest st m found n = n ≡ (rested_view m.0, m.1)

-- on the sweep's seat a word that is ENDED is that of a job that it knows to have ended
abbrev pub looked : Step ℕ → Me ℕ View → ℕ → Me ℕ View → Type 0
looked st m found n = (n ≡ (read_view m.0 (st.word - m.0.size) found, m.1))
    × (m.0.worker.sweeps ≡ true → st.word - m.0.size < length m.0.worker.jobs → found ≡ ENDED → Contains m.0.worker.ended (st.word - m.0.size))
