-- The jobs of a block.
use Rattle.std.specs.Prelude.{◌≤◌, ◌<◌, ◌+◌, ◌*◌, ◌^◌, ℕ, List, length, slice_index}
use Rattle.sn_mem.specs.Layout.{audio_bus_words, bus_words, lane_words, most_lanes}
use Rattle.sn_mem.specs.ThroughFoot.{kept_to}
use Rattle.sn_io.specs.ByFoot.{IsByFoot}
use Rattle.sn_io.proofs.ByFoot.{kept_is_by_foot}
use Rattle.sn_round.specs.Jobs.{foot_at, job_at}
use Rattle.sn_world.specs.Pictures.{Pictures}
use Rattle.sn_graph.specs.Plans.{IsPlanned}
use Rattle.sn_graph.specs.Stages.{nodes_with}
use Rattle.sn_play.specs.declared.block.BlockJobs.{BlockJobs}
use Rattle.sn_play.specs.Steps.{job_steps, lane_steps}

-- what a job makes of words: its steps, kept to its foot
abbrev pub outcome_of : BlockJobs → ℕ → List ℕ → List ℕ
outcome_of w j ws = kept_to (foot_at w.plan.now j) (lane_steps w.stage.now w.block (job_steps (job_at w.plan.now j))) ws

-- it sees and changes the foot alone
pub outcome_by_foot : (w : BlockJobs) (j : ℕ) → IsByFoot (foot_at w.plan.now j) (outcome_of w j)
outcome_by_foot w j = kept_is_by_foot (foot_at w.plan.now j) (lane_steps w.stage.now w.block (job_steps (job_at w.plan.now j)))

-- The stage of a block stands for a world with some words, and its jobs are a plan of the stage, with lanes that lie
-- after the pool.
pub record IsReady (w : BlockJobs) : Type 0 where
  pub words : List ℕ
  pub pictures : Pictures w.stage.now words
  pub first : ℕ
  pub most : ℕ
  pub lies : bus_words + w.stage.now.pool.region.len ≤ first
  pub room : first + audio_bus_words * most ≤ length words
  pub few : most ≤ most_lanes
  pub bounded : first + lane_words < 4294967296
  pub planned : IsPlanned (nodes_with first most w.stage.now) w.plan.now
  pub early : w.block < 2 ^ 63

-- no lane counts as written in a block or in a later one
abbrev pub AreResting : ℕ → ℕ → ℕ → List ℕ → Type 0
AreResting first most b words = (k : ℕ) → k < most → slice_index words (first + audio_bus_words * k) ≤ b
