-- Plans of a stage, kept from one boundary to the next.
use Rattle.std.specs.Prelude.{◌≡◌, ◌≤◌, ◌<◌, ◌+◌, ◌-◌, ℕ, Bool, true, false, if◌then◌else◌, List, length, ◌*◌}
use Rattle.std.specs.List.{All, list_any}
use Rattle.sn_ports.specs.Limits.{most_jobs, most_span, most_channels, block_samples}
use Rattle.sn_mem.specs.declared.extents.Extent.{Extent}
use Rattle.sn_mem.specs.Blocks.{table}
use Rattle.sn_mem.specs.Layout.{audio_place, bus_words, lane_words, most_lanes}
use Rattle.sn_queue.specs.Waiting.{WaitingList}
use Rattle.sn_queue.specs.Steps.{is_due}
use Rattle.sn_round.specs.declared.jobs.Job.{Job}
use Rattle.sn_round.specs.Jobs.{AreJobs, IsRaceFree}
use Rattle.sn_span.specs.Unrolling.{start, unrolled}
use Rattle.sn_quiet.specs.Quiet.{are_quiet}
use Rattle.sn_world.specs.declared.stage.Stage.{Stage}
use Rattle.sn_world.specs.Pictures.{Pictures}
use Rattle.sn_world.specs.World.{World, world_of}
use Rattle.sn_settle.specs.declared.eventful.Eventful.{Eventful}
use Rattle.sn_settle.specs.Eventful.{IsEventfulOf}
use Rattle.sn_graph.specs.Plans.{IsPlanned, plan_of}
use Rattle.sn_graph.specs.Stages.{nodes_with}
use Rattle.sn_graph.specs.Voices.{HeardNodes}
use Rattle.sn_play.specs.declared.span.Span.{Span}
use Rattle.sn_play.specs.Blocks.{AreResting}
use Rattle.sn_play.specs.Spans.{IsSpanReady}
use Rattle.sn_engine.specs.Weighing.{has_lanes}
use Rattle.sn_engine.specs.declared.planning.SpanPlan.{SpanPlan}
use Rattle.sn_engine.specs.declared.standing.Standing.{Standing}
use Rattle.sn_engine.specs.declared.standing.Standing.TheVariants.{Bounded, Rendered}

-- a stage stands for a world with some words
pub record IsPictured (stage : Stage) : Type 0 where
  pub words : List ℕ
  pub pictures : Pictures stage words

-- where the lanes begin: after the copies of a span of the sound, which stand after the words of the pool
abbrev pub first_lane : Stage → ℕ
first_lane stage = (bus_words + stage.pool.region.len) + most_span * block_samples

-- how many lanes a plan has: all, or none, so that members that mix one bus run in order
abbrev pub lanes_for : Bool → ℕ
lanes_for laned = if laned then most_lanes else 0

-- the nodes that are heard, with lanes or without
abbrev pub laned_nodes : Bool → Stage → HeardNodes
laned_nodes laned stage = nodes_with (first_lane stage) (lanes_for laned) stage

-- The lanes have room in the words.
pub record HasLanes (stage : Stage) (words : List ℕ) : Type 0 where
  pub fits : first_lane stage + lane_words ≤ length words
  pub bounded : first_lane stage + lane_words < 4294967296

-- no lane counts as written in block b or in a later one
abbrev pub LanesRest : Stage → ℕ → List ℕ → Type 0
LanesRest stage b words = AreResting (first_lane stage) most_lanes b words

-- jobs are the plan of a stage, with lanes or without, and a round can run them
pub record IsPlanOf (stage : Stage) (jobs : List Job) : Type 0 where
  pub laned : Bool
  pub jobs_are : jobs ≡ plan_of (laned_nodes laned stage)
  pub planned : IsPlanned (laned_nodes laned stage) jobs
  pub order : AreJobs jobs
  pub free : IsRaceFree jobs
  pub few : length jobs ≤ most_jobs

-- Jobs are the plan of a stage for so many workers. It is told whether its nodes are quiet: no synth that runs sends a
-- trigger, or pauses or frees itself. The synths of which something may come when a block is settled are listed.
pub record IsPlannedFor (workers : ℕ) (stage : Stage) (jobs : List Job) (quiet : Bool) (eventful : Eventful) : Type 0 where
  pub plan : IsPlanOf stage jobs
  pub lanes_are : (words : List ℕ) → plan.laned ≡ has_lanes workers (world_of stage words)
  pub quiet_is : (words : List ℕ) → quiet ≡ are_quiet (world_of stage words).nodes
  pub eventful_is : IsEventfulOf stage eventful

-- so they are, if nothing is said to have changed since the plan was made
abbrev pub StillPlanned : Bool → ℕ → Stage → List Job → Bool → Eventful → Type 0
StillPlanned hold workers stage jobs quiet eventful = hold ≡ true → IsPlannedFor workers stage jobs quiet eventful

-- n blocks from block b on may come in a row: a round has room for their jobs, no entry is due between them, and
-- nothing is told or done at the settlings between them
pub record IsSpanOf (jobs : List Job) (quiet : Bool) (waiting : WaitingList) (b n : ℕ) : Type 0 where
  pub few : n ≤ most_span
  pub room : start (length jobs) n ≤ most_jobs
  pub none_due : list_any (is_due waiting (b + n - 1)) waiting.waiting ≡ false
  pub quiet_is : quiet ≡ true

-- the plan of a span is that of the jobs in its blocks, whose copies stand at a place
pub record IsSpanned (jobs : List Job) (outputs : List Extent) (copies : ℕ) (span : SpanPlan) : Type 0 where
  pub some : 2 ≤ span.blocks
  pub few : span.blocks ≤ most_span
  pub room : start (length jobs) span.blocks ≤ most_jobs
  pub all_are : span.all ≡ unrolled jobs outputs copies span.blocks
  pub free : IsRaceFree span.all

-- each of some is
abbrev pub AreSpanned : List Job → List Extent → ℕ → List SpanPlan → Type 0
AreSpanned jobs outputs copies spans = All (IsSpanned jobs outputs copies) spans

-- a span is ready, with lanes or without
pub record IsRowReady (w : Span) : Type 0 where
  pub ready : IsSpanReady w
  pub first : ready.first ≡ first_lane w.first.stage.now

-- so they are, if nothing is said to have changed since the plan was made
abbrev pub StillSpanned : Bool → List Job → List Extent → ℕ → List SpanPlan → Type 0
StillSpanned hold jobs outputs copies spans = hold ≡ true → AreSpanned jobs outputs copies spans

-- The first audio buses are heard, and the copies of a span of their sound begin after the words of the pool.
pub record CopiesLie (channels : ℕ) (stage : Stage) (words : List ℕ) (outputs : List Extent) (copies : ℕ) : Type 0 where
  pub few : channels ≤ most_channels
  pub outputs_are : outputs ≡ table audio_place channels
  pub at : copies ≡ bus_words + stage.pool.region.len
  pub fits : copies + most_span * block_samples ≤ length words
  pub bounded : copies + most_span * block_samples < 4294967296

-- after a boundary nothing is said to have changed since the plan was made
abbrev pub HoldsBounded : Standing → Bool → Type 0
HoldsBounded standing hold = standing ≡ Bounded → hold ≡ true

-- nor after its blocks, until they are settled
abbrev pub HoldsRendered : Standing → Bool → Type 0
HoldsRendered standing hold = standing ≡ Rendered → hold ≡ true

-- a stage stands for a world
pub record IsStageOf (world : World) (stage : Stage) : Type 0 where
  pub words : List ℕ
  pub stands : world_of stage words ≡ world
  pub pictures : Pictures stage words

-- jobs are the plan for so many workers of a stage that stands for a world
pub record IsPlanOfWorld (workers : ℕ) (world : World) (jobs : List Job) : Type 0 where
  pub stage : Stage
  pub words : List ℕ
  pub stands : world_of stage words ≡ world
  pub pictures : Pictures stage words
  pub planned : IsPlanOf stage jobs
  pub lanes_are : planned.laned ≡ has_lanes workers world
