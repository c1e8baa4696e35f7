-- Jobs, and what it means that they may run in any order that their predecessors allow.
use Rattle.std.specs.Prelude.{◌≡◌, ◌≢◌, ◌⊎◌, ℕ, ◌+◌, ◌^◌, ◌<◌, ◌≤◌, ◌==◌, Bool, true, false, ◌||◌, if◌then◌else◌, List, [], ◌∷◌, ◌++◌, length, slice_index_or, Contains}
use Rattle.sn_mem.specs.declared.extents.Foot.{Foot}
use Rattle.sn_mem.specs.declared.moves.Moved.{Moved}
use Rattle.sn_mem.specs.Words.{Clash, touches}
use Rattle.sn_mem.specs.Blocks.{table}
use Rattle.sn_round.specs.declared.jobs.Job.{Job}

-- a foot that touches nothing, and what stands for a job that a round doesn't have
abbrev pub no_foot : Foot
no_foot = record { reads = []; writes = [] }

abbrev pub no_job : Job
no_job = record { synths = []; moves = []; lanes = []; foot = no_foot; before = [] }

abbrev pub job_at : List Job → ℕ → Job
job_at jobs j = slice_index_or jobs j no_job

-- the buses that a synth of a job mixes onto lanes, and the lanes that a job adds
abbrev pub moves_at : List Job → ℕ → ℕ → List Moved
moves_at jobs j k = slice_index_or (job_at jobs j).moves k []

abbrev pub lanes_at : List Job → ℕ → List Moved
lanes_at jobs j = (job_at jobs j).lanes

abbrev pub predecessors : List Job → ℕ → List ℕ
predecessors jobs j = (job_at jobs j).before

abbrev pub foot_at : List Job → ℕ → Foot
foot_at jobs j = (job_at jobs j).foot

-- how often a job stands in a list
abbrev pub times : ℕ → List ℕ → ℕ
times j [] = 0
times j (x ∷ xs) = (if x == j then 1 else 0) + times j xs

-- A list of fewer than 2^32 jobs. The predecessors of each stand before it, and each is named once.
pub record AreJobs (jobs : List Job) : Type 0 where
  pub few : length jobs < 2 ^ 32
  pub lower : (i j : ℕ) → j < length jobs → Contains (predecessors jobs j) i → i < j
  pub once : (i j : ℕ) → j < length jobs → times i (predecessors jobs j) ≤ 1

-- the job is among those of a list
abbrev pub is_in : ℕ → List ℕ → Bool
is_in j [] = false
is_in j (x ∷ xs) = (x == j) || is_in j xs

-- the jobs that have j as a predecessor, among jobs of which the first has the number k
abbrev pub successors_from : ℕ → List Job → ℕ → List ℕ
successors_from k [] j = []
successors_from k (job ∷ jobs) j = (if is_in j job.before then k ∷ [] else []) ++ successors_from (k + 1) jobs j

abbrev pub successors : List Job → ℕ → List ℕ
successors jobs j = successors_from 0 jobs j

-- those of each job
abbrev pub all_successors : List Job → List (List ℕ)
all_successors jobs = table (successors jobs) (length jobs)

-- i is a predecessor of j, or is ordered before one
pub data Ordered (jobs : List Job) : ℕ → ℕ → Type 0 where
  direct : {i j : ℕ} → Contains (predecessors jobs j) i → Ordered jobs i j
  through : {i k j : ℕ} → Ordered jobs i k → Contains (predecessors jobs j) k → Ordered jobs i j

-- Of any two jobs that clash, one is ordered before the other.
abbrev pub IsRaceFree : List Job → Type 0
IsRaceFree jobs = (i j : ℕ) → i < length jobs → j < length jobs → i ≢ j → Clash (foot_at jobs i) (foot_at jobs j) → Ordered jobs i j ⊎ Ordered jobs j i

-- Each foot lies in a memory of so many words.
abbrev pub AreWithin : ℕ → List Job → Type 0
AreWithin size jobs = (j x : ℕ) → j < length jobs → touches (foot_at jobs j) x ≡ true → x < size
