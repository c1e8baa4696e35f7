-- What a round asks of its plan and its work.
use Rattle.std.specs.Prelude.{◌≡◌, ℕ, ◌<◌, ◌≤◌, List, length, slice_index}
use Rattle.sn_mem.specs.declared.extents.Foot.{Foot}
use Rattle.sn_round.specs.declared.jobs.Job.{Job}
use Rattle.sn_round.specs.Jobs.{AreJobs, AreWithin, IsRaceFree, foot_at, predecessors}
use Rattle.sn_table.specs.declared.seats.Shared.{Shared}

-- each job's word is the number of its predecessors
abbrev pub IsArmed : List ℕ → List Job → Type 0
IsArmed counts jobs = (j : ℕ) → j < length jobs → slice_index counts j ≡ length (predecessors jobs j)

-- the jobs are free of races, their feet lie in the memory, and there is a word for each
pub record Suits (shared : Shared) (jobs : List Job) : Type 0 where
  pub order : AreJobs jobs
  pub free : IsRaceFree jobs
  pub within : AreWithin shared.words jobs
  pub roomy : length jobs ≤ shared.jobs

-- a work of so many jobs with these feet is one of the jobs
abbrev pub IsWorkOf : ℕ → (ℕ → Foot) → List Job → Type 0
IsWorkOf number feet jobs = (number ≡ length jobs) × ((j : ℕ) → j < length jobs → foot_at jobs j ≡ feet j)
