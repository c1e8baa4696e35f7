-- Synths of which no two can run beside each other.
use Rattle.std.specs.Prelude.{◌≡◌, ◌⊎◌, ℕ, ◌+◌, ◌<◌, ◌≤◌, ℤ, true, false, if◌then◌else◌, List, [], ◌∷◌, length}
use Rattle.sn_mem.specs.Layout.{most_lanes}
use Rattle.sn_round.specs.declared.jobs.Job.{Job}
use Rattle.sn_round.specs.Jobs.{Ordered}
use Rattle.sn_world.specs.declared.stage.Stage.{Stage}
use Rattle.sn_world.specs.Pictures.{Pictures}
use Rattle.sn_world.specs.World.{World, world_of}
use Rattle.sn_graph.specs.Plans.{is_listed, plan_of}
use Rattle.sn_graph.specs.Stages.{nodes_with}
use Rattle.sn_report.specs.Costs.{cost_of, units_in}
use Rattle.sn_report.specs.Reports.{report_of, world_weight}
use Rattle.sn_report.specs.Weights.{Weight}

-- the job that plays a synth: the first one, of which a plan of nodes has no other
abbrev pub home : List Job → ℤ → ℕ
home [] a = 0
home (j ∷ js) a = if is_listed j.synths a then 0 else 1 + home js a

-- Each is played, and any two lie in one job, or in jobs of which one is ordered before the other.
pub record AreInLine (jobs : List Job) (ids : List ℤ) : Type 0 where
  pub played : (a : ℤ) → is_listed ids a ≡ true → home jobs a < length jobs
  pub two : (a b : ℤ) → is_listed ids a ≡ true → is_listed ids b ≡ true → (home jobs a ≡ home jobs b) ⊎ (Ordered jobs (home jobs a) (home jobs b) ⊎ Ordered jobs (home jobs b) (home jobs a))

-- no id stands twice
abbrev pub AreOnce : List ℤ → Type 0
AreOnce [] = Unit {0}
AreOnce (a ∷ ids) = (is_listed ids a ≡ false) × AreOnce ids

-- The chain names each synth once, it has the cost, it is in line, and no list in line that names each synth once costs
-- more.
pub record IsLongest (units : ℤ → ℕ) (jobs : List Job) (w : Weight) : Type 0 where
  pub once : AreOnce w.chain
  pub cost_is : w.cost ≡ cost_of units w.chain
  pub line : AreInLine jobs w.chain
  pub most : (ids : List ℤ) → AreOnce ids → AreInLine jobs ids → cost_of units ids ≤ w.cost

-- jobs are the plan of a stage, with lanes from some word
abbrev pub IsPlanIn : Stage → List Job → Type 0
IsPlanIn stage jobs = (first : ℕ) × (jobs ≡ plan_of (nodes_with first most_lanes stage))

-- a stage stands for a world with some words
pub record IsPictured (stage : Stage) : Type 0 where
  pub words : List ℕ
  pub pictures : Pictures stage words

-- The weight of a world is the longest of the plan of a stage that stands for it.
pub record HasLongest (world : World) : Type 0 where
  pub stage : Stage
  pub words : List ℕ
  pub stands : world_of stage words ≡ world
  pub jobs : List Job
  pub plan : IsPlanIn stage jobs
  pub longest : IsLongest (units_in stage) jobs (world_weight world)

-- bytes are the report of each world that a stage stands for, and each of them has its longest chain
abbrev pub TellsEach : Stage → List ℕ → Type 0
TellsEach stage bytes = (words : List ℕ) → bytes ≡ report_of (world_of stage words)

abbrev pub EachHasLongest : Stage → Type 0
EachHasLongest stage = (words : List ℕ) → HasLongest (world_of stage words)
