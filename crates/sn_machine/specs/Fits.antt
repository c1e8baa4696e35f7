-- What a view says by itself: what it runs, that it fits the numbers of words, and that a job is free for it.
use Rattle.std.specs.Prelude.{Contains, ◌≡◌, ℕ, ◌<◌, ◌≤◌, List, [], length, Option, Some, None}
use Rattle.sn_mem.specs.declared.extents.Foot.{Foot}
use Rattle.sn_round.specs.Jobs.{AreWithin, foot_at, predecessors}
use Rattle.sn_round.specs.Scripts.{list_at}
use Rattle.sn_machine.specs.declared.views.View.{View}
use Rattle.sn_machine.specs.declared.views.RunningJob.{RunningJob}
use Rattle.sn_machine.specs.States.{RunsJob, jobs_in, script_in, counts_in}

-- the job that a worker runs, with its picture
abbrev pub running_in : Option RunningJob → RunningJob
running_in None = record { job = 0; picture = [] }
running_in (Some r) = r

abbrev pub job_of : View → ℕ
job_of v = (running_in v.worker.runs).job

abbrev pub picture_of : View → List ℕ
picture_of v = (running_in v.worker.runs).picture

abbrev pub foot_of : View → Foot
foot_of v = foot_at v.worker.jobs (job_of v)

-- the worker runs a job
abbrev pub IsBusy : View → Type 0
IsBusy v = RunsJob v (job_of v) (picture_of v)

-- a worker's jobs, script and picture fit the numbers of words
pub record Fits (v : View) : Type 0 where
  pub few : length v.worker.jobs ≤ v.room
  pub within : AreWithin v.size v.worker.jobs
  pub script : (i : ℕ) → i < length v.worker.jobs → length (list_at v.worker.script i) ≡ v.size
  pub running : (j : ℕ) (picture : List ℕ) → RunsJob v j picture → (j < length v.worker.jobs) × (length picture ≡ v.size)

-- so does what main knows
pub record MainFits (v : View) : Type 0 where
  pub few : length (jobs_in v.main.phase) ≤ v.room
  pub within : AreWithin v.size (jobs_in v.main.phase)
  pub script : (i : ℕ) → i ≤ length (jobs_in v.main.phase) → length (list_at (script_in v.main.phase) i) ≡ v.size
  pub counts : length (counts_in v.main.phase) ≡ v.room

-- the job is new to the view, which knows that each of its predecessors has ended
abbrev pub IsFree : View → ℕ → Type 0
IsFree v j = (Contains v.worker.ended j → ⊥) × ((p : ℕ) → Contains (predecessors v.worker.jobs j) p → Contains v.worker.ended p)
