-- The least levels, and the chain that is traced by them.
use Rattle.std.specs.Prelude.{◌≡◌, ℕ, ◌+◌, ◌<◌, max, nat_lt, ℤ, List, [], ◌∷◌, ◌++◌, length, Option, Some, None, if◌then◌else◌}
use Rattle.sn_round.specs.declared.jobs.Job.{Job}
use Rattle.sn_round.specs.Jobs.{predecessors}
use Rattle.sn_report.specs.Certificates.{below, cost_after, level_at}

-- the level of each of the first n jobs is what it costs after the greatest level of its predecessors
pub record AreLeast (units : ℤ → ℕ) (jobs : List Job) (n : ℕ) (levels : List ℕ) : Type 0 where
  pub long : length levels ≡ n
  pub each : (j : ℕ) → j < n → level_at levels j ≡ cost_after units jobs levels j

abbrev pub better : List ℕ → ℕ → Option ℕ → ℕ
better levels i None = i
better levels i (Some j) = if nat_lt (level_at levels i) (level_at levels j) then j else i

-- the first of these jobs that have the greatest level
abbrev pub first_greatest : List ℕ → List ℕ → Option ℕ
first_greatest levels [] = None
first_greatest levels (j ∷ js) = Some (better levels j (first_greatest levels js))

-- Of these jobs, the first with the greatest level ends the chain. Of its predecessors, the first with the greatest
-- level comes before it, and so on.
pub data Comes (jobs : List Job) (levels : List ℕ) : List ℕ → List ℕ → Type 0 where
  none : Comes jobs levels [] []
  after : {js chain : List ℕ} {j : ℕ} → first_greatest levels js ≡ Some j → Comes jobs levels (predecessors jobs j) chain → Comes jobs levels js (chain ++ j ∷ [])

-- The levels are the least, and the chain is traced from all jobs, of which the last with the greatest level ends it.
pub record IsTraced (units : ℤ → ℕ) (jobs : List Job) (chain levels : List ℕ) : Type 0 where
  pub least : AreLeast units jobs (length jobs) levels
  pub chain_is : Comes jobs levels (below (length jobs)) chain

-- the least number that is above all of these
abbrev pub ceiling : List ℕ → ℕ
ceiling [] = 0
ceiling (j ∷ js) = max (j + 1) (ceiling js)
