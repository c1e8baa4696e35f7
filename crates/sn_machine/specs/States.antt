-- States of the round machine: the words, and what each seat knows.
use Rattle.std.specs.Prelude.{◌≡◌, ℕ, ◌^◌, Bool, false, ◌||◌, ◌==◌, List, [], ◌∷◌, length, slice_index, Some, None}
use mathlib.Core.Option.{some}
use lib.ListN.{get_elem?}
use Rattle.sn_round.specs.declared.jobs.Job.{Job}
use Rattle.sn_machine.specs.declared.views.View.{View}
use Rattle.sn_machine.specs.declared.views.Main.{Main}
use Rattle.sn_machine.specs.declared.views.Worker.{Worker}
use Rattle.sn_machine.specs.declared.views.Phase.{Phase}
use Rattle.sn_machine.specs.declared.views.Phase.TheVariants.{Idle, Round}

-- The memory words, one word for each job, and the view of each seat, main's first.
pub record State : Type 0 where
  pub memory : List ℕ
  pub counts : List ℕ
  pub views : List View

-- the word of a job that is run, and of one that has ended; before it is a count of what the job waits for
abbrev pub CLAIMED : ℕ
CLAIMED = 2 ^ 62

abbrev pub ENDED : ℕ
ENDED = 2 ^ 63

abbrev pub is_claimed : List ℕ → ℕ → Bool
is_claimed counts j = slice_index counts j == CLAIMED

abbrev pub is_ended : List ℕ → ℕ → Bool
is_ended counts j = slice_index counts j == ENDED

abbrev pub has_begun : List ℕ → ℕ → Bool
has_begun counts j = is_claimed counts j || is_ended counts j

-- the seat i has the view v
abbrev pub At : List View → ℕ → View → Type 0
At views i v = get_elem? views i ≡ some v

-- the worker runs the job j, and this is the memory as it sees it
abbrev pub RunsJob : View → ℕ → List ℕ → Type 0
RunsJob v j picture = v.worker.runs ≡ Some (record { job = j; picture = picture })

-- what main knows while no round runs
abbrev pub memory_in : Phase → List ℕ
memory_in (Idle memory counts) = memory
memory_in (Round jobs script crew at_go) = []

-- the job words that main knows, or those at go
abbrev pub counts_in : Phase → List ℕ
counts_in (Idle memory counts) = counts
counts_in (Round jobs script crew at_go) = at_go

-- what it knows in a round
abbrev pub jobs_in : Phase → List Job
jobs_in (Idle memory counts) = []
jobs_in (Round jobs script crew at_go) = jobs

abbrev pub script_in : Phase → List (List ℕ)
script_in (Idle memory counts) = memory ∷ []
script_in (Round jobs script crew at_go) = script

abbrev pub crew_in : Phase → ℕ
crew_in (Idle memory counts) = 0
crew_in (Round jobs script crew at_go) = crew

abbrev pub IsIdle : View → Type 0
IsIdle v = v.main.phase ≡ Idle (memory_in v.main.phase) (counts_in v.main.phase)

abbrev pub IsInRound : View → Type 0
IsInRound v = v.main.phase ≡ Round (jobs_in v.main.phase) (script_in v.main.phase) (crew_in v.main.phase) (counts_in v.main.phase)

-- the idle main of a worker's seat, and the idle worker of main's
abbrev pub no_main : Main
no_main = record { phase = Idle [] []; live = 0; joined = false; ended = []; rested = []; stores = 0 }

abbrev pub no_worker : Worker
no_worker = record { live = false; sweeps = false; jobs = []; script = []; runs = None; debts = []; ended = []; readings = 0; last = (0, 0) }

-- what is left of a worker's seat that was joined
abbrev pub spent : View
spent = record { size = 0; room = 0; main = no_main; worker = no_worker }

-- what main knows at the beginning, and the state then: these words, and main's seat alone
abbrev pub idle_main : List ℕ → List ℕ → Main
idle_main memory counts = record { phase = Idle memory counts; live = 0; joined = false; ended = []; rested = []; stores = 0 }

abbrev pub opening_view : List ℕ → List ℕ → View
opening_view memory counts = record { size = length memory; room = length counts; main = idle_main memory counts; worker = no_worker }

abbrev pub opening : List ℕ → List ℕ → State
opening memory counts = record { memory = memory; counts = counts; views = opening_view memory counts ∷ [] }
