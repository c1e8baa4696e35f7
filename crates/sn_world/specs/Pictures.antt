-- When a stage and its words stand for a world.
use Rattle.std.specs.Prelude.{◌≡◌, ◌≤◌, ◌<◌, ◌+◌, ℕ, Bool, true, false, ◌++◌, List, [], ◌∷◌, length, slice_index, Option, None}
use Rattle.sn_mem.specs.Layout.{bus_words}
use Rattle.sn_ports.specs.Limits.{high_rate}
use Rattle.sn_mem.specs.declared.extents.Extent.{Extent}
use Rattle.sn_mem.specs.declared.extents.Foot.{Foot}
use Rattle.sn_mem.specs.Words.{writes}
use Rattle.sn_def.specs.declared.control.Control.{Control}
use Rattle.sn_def.specs.Defs.{definition_of}
use Rattle.sn_def.specs.Definition.{Definition}
use Rattle.sn_def.specs.StateWords.{state_words}
use Rattle.sn_pool.specs.Pools.{LiesIn, times}
use Rattle.sn_synth.specs.Conditions.{AreControlsOf}
use Rattle.sn_tree.specs.declared.node.NodeKind.{NodeKind}
use Rattle.sn_tree.specs.declared.node.NodeKind.TheVariants as kinds
use Rattle.sn_tree.specs.Trees.{Nodes, none, node}
use Rattle.sn_world.specs.declared.stage.Held.{Held}
use Rattle.sn_world.specs.declared.stage.Held.TheVariants as held
use Rattle.sn_world.specs.declared.stage.Stage.{Stage}
use Rattle.sn_mem.specs.declared.buffers.BufferPlace.{BufferPlace}
use Rattle.sn_mem.specs.Buffers.{overlaps, live_places, AreApart}
use Rattle.sn_world.specs.Buffers.{AreBuffers}

-- where the pool keeps the words of what a node holds, and of all nodes in the order of the walk
abbrev pub held_extents : Held → List Extent
held_extents held.Group = []
held_extents (held.Synth def controls state) = state ∷ []

abbrev pub live_held : Nodes Held → List Extent
live_held none = []
live_held (node label below after) = held_extents label.payload ++ (live_held below ++ live_held after)

-- the sum of the weights of extents
unfoldable pub amount : (Extent → ℕ) → List Extent → ℕ
amount weight [] = 0
amount weight (e ∷ es) = weight e + amount weight es

-- a synth has its definition's controls, and its words lie in the region
pub record IsSynthOf (rate : ℕ) (region : Extent) (d : Definition) (controls : List Control) (state : Extent) : Type 0 where
  pub each : AreControlsOf d controls
  pub size : state.len ≡ state_words rate d
  pub within : LiesIn region state

abbrev pub IsHeld : ℕ → Extent → Held → Type 0
IsHeld rate region held.Group = Unit {0}
IsHeld rate region (held.Synth def controls state) = IsSynthOf rate region (definition_of def.value) controls state

-- no word of its state is a buffer's
abbrev pub IsApart : List (Option BufferPlace) → Held → Type 0
IsApart places held.Group = Unit {0}
IsApart places (held.Synth def controls state) = AreApart state places

abbrev pub has_synth : Held → Bool
has_synth held.Group = false
has_synth (held.Synth def controls state) = true

-- the units of what a node holds, none of a group
abbrev pub units_of : Held → ℕ
units_of held.Group = 0
units_of (held.Synth def controls state) = length (definition_of def.value).units

-- a node is a synth by its kind exactly if it holds one, and no node stands below a synth
abbrev pub KindAgrees : NodeKind → Held → Nodes Held → Type 0
KindAgrees kinds.Synth h below = (has_synth h ≡ true) × (below ≡ none)
KindAgrees kinds.Group h below = has_synth h ≡ false
KindAgrees kinds.Parallel h below = has_synth h ≡ false

abbrev pub AreHeld : ℕ → Extent → Nodes Held → Type 0
AreHeld rate region none = Unit {0}
AreHeld rate region (node label below after) = IsHeld rate region label.payload × (AreHeld rate region below × AreHeld rate region after) × KindAgrees label.kind label.payload below

-- The pool gives from the words after the buses. Each extent with a word is live in it as often as it is that of a
-- synth or a buffer, and no word is that of two of them.
pub record Pictures (stage : Stage) (words : List ℕ) : Type 0 where
  pub rate : 0 < stage.rate
  pub rate_fits : stage.rate ≤ high_rate
  pub base : stage.pool.region.at ≡ bus_words
  pub bounded : bus_words + stage.pool.region.len < 4294967296
  pub fits : bus_words + stage.pool.region.len ≤ length words
  pub synths : AreHeld stage.rate stage.pool.region stage.tree.attached
  pub buffers : AreBuffers stage.pool.region stage.buffers
  pub live : (e : Extent) → 1 ≤ e.len → times e stage.pool.live ≡ times e (live_held stage.tree.attached) + times e (live_places stage.buffers)
  pub apart : (x : ℕ) → overlaps x (live_held stage.tree.attached) + overlaps x (live_places stage.buffers) ≤ 1
  pub attached : stage.tree.detached ≡ none
  pub settled : stage.tree.journal ≡ None
  pub closed : stage.pool.journal ≡ None

-- the words of the buses may be written
abbrev pub WritesBuses : Foot → Type 0
WritesBuses foot = (k : ℕ) → k < bus_words → writes foot k ≡ true

-- the words of the buses and of the pool's region may be written
pub record WritesWorld (foot : Foot) (region : Extent) : Type 0 where
  pub buses : WritesBuses foot
  pub pool : (k : ℕ) → region.at ≤ k → k < region.at + region.len → writes foot k ≡ true

-- each word after the buses and the pool's region is as before
abbrev pub KeepsOutside : Extent → List ℕ → List ℕ → Type 0
KeepsOutside region old new = (k : ℕ) → bus_words ≤ k → region.at + region.len ≤ k → slice_index new k ≡ slice_index old k
