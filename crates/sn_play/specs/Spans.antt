-- The jobs of several blocks in one round.
use Rattle.std.specs.Prelude.{◌≡◌, ◌<◌, ◌≤◌, ◌+◌, ◌*◌, ◌^◌, ℕ, List, length, slice_index, slice_index_or}
use Rattle.sn_ports.specs.Limits.{block_samples, block_frames, most_channels}
use Rattle.sn_mem.specs.Blocks.{sample_in, table}
use Rattle.sn_mem.specs.Buses.{heard, silent}
use Rattle.sn_mem.specs.ThroughFoot.{kept_to}
use Rattle.sn_mem.specs.Layout.{audio_place, bus_words, audio_bus_words, lane_words, most_lanes}
use Rattle.sn_round.specs.Jobs.{foot_at}
use Rattle.sn_span.specs.Rounds.{in_span}
use Rattle.sn_span.specs.Unrolling.{unrolled}
use Rattle.sn_world.specs.Pictures.{Pictures}
use Rattle.sn_world.specs.World.{world_of}
use Rattle.sn_world.specs.declared.stage.Stage.{Stage}
use Rattle.sn_quiet.specs.Walks.{walks}
use Rattle.sn_graph.specs.Plans.{IsPlanned}
use Rattle.sn_graph.specs.Stages.{nodes_with}
use Rattle.sn_play.specs.declared.block.BlockJobs.{BlockJobs}
use Rattle.sn_play.specs.declared.span.Span.{Span}
use Rattle.sn_play.specs.Blocks.{outcome_of}

-- block k of a span
abbrev pub block_at : BlockJobs → ℕ → BlockJobs
block_at first k = record first { block = first.block + k }

-- what a job makes of words: one of a block what it makes in a round of that block, and a capture a copy of the block's
-- sound
abbrev pub made_in : Span → ℕ → List ℕ → List ℕ
made_in w = in_span w.outputs.now w.copies w.first.block (λ k. outcome_of (block_at w.first k)) (length w.first.plan.now)

-- kept to the job's foot
abbrev pub outcome_in : Span → ℕ → List ℕ → List ℕ
outcome_in w j ws = kept_to (foot_at w.all.now j) (made_in w j) ws

-- The stage of a span stands for a world with some words. The jobs are those of a plan of the stage in so many blocks.
-- The first audio buses are its outputs. Their copies stand after the words of the buses and of the pool, and the lanes
-- after the copies.
pub record IsSpanReady (w : Span) : Type 0 where
  pub channels : ℕ
  pub few : channels ≤ most_channels
  pub outputs_are : w.outputs.now ≡ table audio_place channels
  pub words : List ℕ
  pub pictures : Pictures w.first.stage.now words
  pub first : ℕ
  pub most : ℕ
  pub room : first + audio_bus_words * most ≤ length words
  pub most_few : most ≤ most_lanes
  pub bounded : first + lane_words < 4294967296
  pub planned : IsPlanned (nodes_with first most w.first.stage.now) w.first.plan.now
  pub early : w.first.block + w.blocks < 2 ^ 63
  pub all_are : w.all.now ≡ unrolled w.first.plan.now w.outputs.now w.copies w.blocks
  pub behind : bus_words + w.first.stage.now.pool.region.len ≤ w.copies
  pub before : w.copies + block_samples * w.blocks ≤ first

-- Words stand for the world after n walks, from block b on, over other words. The copies hold what is heard of the
-- first audio buses after each walk.
pub record ArePlayed (stage : Stage) (b n copies channels : ℕ) (words us : List ℕ) : Type 0 where
  pub world : world_of stage us ≡ walks b n (world_of stage words)
  pub pictures : Pictures stage us
  pub sound : (k c frame : ℕ) → k < n → c < channels → frame < block_frames → sample_in (slice_index us (copies + block_samples * k + block_frames * c + frame)) ≡ heard (b + k) (slice_index_or (walks b (k + 1) (world_of stage words)).audio_buses c silent) frame
