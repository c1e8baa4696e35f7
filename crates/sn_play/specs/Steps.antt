-- What the steps of a plan make of the memory words in a block.
use Rattle.std.specs.Prelude.{◌≡◌, ℕ, ℤ, List, [], ◌∷◌, ◌++◌, map, true, false}
use Rattle.sn_mem.specs.declared.extents.Foot.{Foot}
use Rattle.sn_mem.specs.declared.moves.Moved.{Moved}
use Rattle.sn_mem.specs.Lanes.{are_moves, buses_in, foot_through, lanes_in, through_if}
use Rattle.sn_mem.specs.Words.{has, touches}
use Rattle.sn_io.specs.Joints.{with_lane}
use Rattle.sn_io.specs.Queues.{Puts}
use Rattle.sn_round.specs.declared.jobs.Job.{Job}
use Rattle.sn_world.specs.declared.stage.Stage.{Stage}
use Rattle.sn_graph.specs.Plans.{Step, renders, adds_lane, runs_of}
use Rattle.sn_play.specs.Named.{CanRun, held_at, words_by_ids}

-- what steps make of the words of the walk, which adds no lane, and of words with lanes
abbrev pub walk_step : Stage → ℕ → Step → List ℕ → List ℕ
walk_step stage b (renders a ms) ws = words_by_ids stage b (a ∷ []) ws
walk_step stage b (adds_lane m) ws = ws

abbrev pub lane_step : Stage → ℕ → Step → List ℕ → List ℕ
lane_step stage b (renders a ms) ws = through_if ms (words_by_ids stage b (a ∷ [])) ws
lane_step stage b (adds_lane m) ws = with_lane b m ws

abbrev pub walk_steps : Stage → ℕ → List Step → List ℕ → List ℕ
walk_steps stage b [] ws = ws
walk_steps stage b (s ∷ steps) ws = walk_steps stage b steps (walk_step stage b s ws)

abbrev pub lane_steps : Stage → ℕ → List Step → List ℕ → List ℕ
lane_steps stage b [] ws = ws
lane_steps stage b (s ∷ steps) ws = lane_steps stage b steps (lane_step stage b s ws)

-- the steps of a job
abbrev pub job_steps : Job → List Step
job_steps j = runs_of j.synths j.moves ++ map adds_lane j.lanes

-- A node can run with these buses moved onto lanes: it puts signals onto the buses, and touches neither them nor the
-- lanes.
pub record CanMove (stage : Stage) (b : ℕ) (node : ℤ) (ms : List Moved) (f : Foot) (size : ℕ) : Type 0 where
  pub plain : ms ≡ [] → CanRun stage f (held_at stage node)
  pub moved : CanRun stage (foot_through ms size f) (held_at stage node)
  pub moves : are_moves size ms ≡ true
  pub own : Foot
  pub puts : Puts b own ms (words_by_ids stage b (node ∷ []))
  pub off_buses : (x : ℕ) → has (buses_in ms) x ≡ true → touches own x ≡ false
  pub off_lanes : (x : ℕ) → has (lanes_in ms) x ≡ true → touches own x ≡ false

-- so can all of these, each with its own
abbrev pub CanMoveAll : Stage → ℕ → List ℤ → List (List Moved) → Foot → ℕ → Type 0
CanMoveAll stage b [] moves f size = Unit {0}
CanMoveAll stage b (a ∷ nodes) [] f size = CanMove stage b a [] f size × CanMoveAll stage b nodes [] f size
CanMoveAll stage b (a ∷ nodes) (ms ∷ moves) f size = CanMove stage b a ms f size × CanMoveAll stage b nodes moves f size
