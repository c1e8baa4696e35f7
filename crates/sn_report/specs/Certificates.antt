-- A chain of jobs, and levels that show that no chain costs more.
use Rattle.std.specs.Prelude.{ℕ, zero, suc, ◌+◌, ◌==◌, max, nat_lt, nat_le, ℤ, Bool, true, ◌&&◌, List, [], ◌∷◌, ◌++◌, length, slice_index, Option, Some, None}
use Rattle.std.specs.List.{list_all, list_any}
use Rattle.sn_round.specs.declared.jobs.Job.{Job}
use Rattle.sn_round.specs.Jobs.{job_at, predecessors}
use Rattle.sn_report.specs.Costs.{cost_of}

-- the synths of some jobs, in their order
abbrev pub played : List Job → List ℕ → List ℤ
played jobs [] = []
played jobs (j ∷ js) = (job_at jobs j).synths ++ played jobs js

-- the jobs below a number, from the last to the first
abbrev pub below : ℕ → List ℕ
below zero = []
below (suc n) = n ∷ below n

-- ---- a chain

abbrev pub follows : List Job → Option ℕ → ℕ → Bool
follows jobs None j = true
follows jobs (Some i) j = list_any (λ x. x == i) (predecessors jobs j)

-- a job of the plan, of which the one before it, if there is one, is a predecessor
abbrev pub may_follow : List Job → Option ℕ → ℕ → Bool
may_follow jobs before j = nat_lt j (length jobs) && follows jobs before j

abbrev pub goes_on : List Job → Option ℕ → List ℕ → Bool
goes_on jobs before [] = true
goes_on jobs before (j ∷ js) = may_follow jobs before j && goes_on jobs (Some j) js

-- jobs of which each is a predecessor of the next
abbrev pub is_chain : List Job → List ℕ → Bool
is_chain jobs chain = goes_on jobs None chain

-- ---- levels

abbrev pub level_at : List ℕ → ℕ → ℕ
level_at levels j = slice_index levels j

-- the greatest of the levels of some jobs, 0 if there are none
abbrev pub greatest_of : List ℕ → List ℕ → ℕ
greatest_of levels [] = 0
greatest_of levels (j ∷ js) = max (level_at levels j) (greatest_of levels js)

module _ (units : ℤ → ℕ) (jobs : List Job) where
  abbrev pub job_cost : ℕ → ℕ
  job_cost j = cost_of units (job_at jobs j).synths

  abbrev pub chain_cost : List ℕ → ℕ
  chain_cost [] = 0
  chain_cost (j ∷ js) = job_cost j + chain_cost js

  -- what a job costs, after the greatest level of its predecessors
  abbrev pub cost_after : List ℕ → ℕ → ℕ
  cost_after levels j = job_cost j + greatest_of levels (predecessors jobs j)

  -- one level for each job, which is at least what it costs, and at least that after the level of each predecessor
  abbrev pub are_levels : List ℕ → Bool
  are_levels levels = (length levels == length jobs) && list_all (λ j. nat_le (cost_after levels j) (level_at levels j)) (below (length jobs))

  -- a chain, whose cost is the greatest of the levels of all jobs
  abbrev pub certifies : List ℕ → List ℕ → Bool
  certifies chain levels = is_chain jobs chain && (are_levels levels && (chain_cost chain == greatest_of levels (below (length jobs))))
