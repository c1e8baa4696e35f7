-- Synths of which triggers or ends may come when a block is settled.
use Rattle.std.specs.Prelude.{◌≡◌, ◌≤◌, ◌==◌, ◌+◌, ℕ, ℤ, if◌then◌else◌, List, [], ◌∷◌, ◌++◌, map}
use Rattle.sn_mem.specs.declared.extents.Extent.{Extent}
use Rattle.sn_def.specs.Definition.{Definition}
use Rattle.sn_def.specs.Defs.{definition_of}
use Rattle.sn_def.specs.StateWords.{state_words}
use Rattle.sn_pool.specs.Pools.{LiesIn}
use Rattle.sn_reply.specs.declared.events.Notice.{Notice}
use Rattle.sn_tree.specs.Trees.{Label, running_labels}
use Rattle.sn_world.specs.declared.endings.Ending.{Ending}
use Rattle.sn_world.specs.declared.stage.Held.{Held}
use Rattle.sn_world.specs.declared.stage.Held.TheVariants as held
use Rattle.sn_world.specs.declared.stage.Stage.{Stage}
use Rattle.sn_world.specs.Settling.{unit_triggers, unit_endings, settled_units}
use Rattle.sn_world.specs.SettleWords.{units_room, held_room, walk_room}
use Rattle.sn_settle.specs.declared.eventful.Eventful.{Eventful}
use Rattle.sn_settle.specs.declared.eventful.EventfulSynth.{EventfulSynth}

-- a synth of a node: its definition, and where the words of its units' states are
pub record SynthAt : Type 0 where
  pub node : ℤ
  pub definition : Definition
  pub state : Extent

abbrev pub synth_at : EventfulSynth → SynthAt
synth_at s = record { node = s.node; definition = definition_of s.def.value; state = s.state }

-- the synth that a node holds
abbrev pub held_synth : ℤ → Held → List SynthAt
held_synth id held.Group = []
held_synth id (held.Synth def controls state) = record { node = id; definition = definition_of def.value; state = state } ∷ []

-- the same, if triggers or ends may come of it
abbrev pub eventful_held : ℤ → Held → List SynthAt
eventful_held id h = if held_room h == 0 then [] else held_synth id h

-- of nodes that run, one after the other
abbrev pub eventful_in : List (Label Held) → List SynthAt
eventful_in [] = []
eventful_in (l ∷ ls) = eventful_held l.id l.payload ++ eventful_in ls

-- They are those of a stage, and it is told how many triggers and ends may come of a block.
pub record IsEventfulOf (stage : Stage) (eventful : Eventful) : Type 0 where
  pub synths_are : map synth_at eventful.synths.items ≡ eventful_in (running_labels stage.tree.attached)
  pub room_is : eventful.room ≡ walk_room (running_labels stage.tree.attached)
  pub few : eventful.room ≤ 2097152

-- ---- what comes of them

abbrev pub synth_triggers : ℕ → ℕ → SynthAt → List ℕ → List Notice
synth_triggers rate b s ws = unit_triggers rate b s.node s.definition.units s.state.at ws

abbrev pub synth_endings : ℕ → SynthAt → List ℕ → List Ending
synth_endings rate s ws = unit_endings rate s.node s.definition.units s.state.at ws

abbrev pub settled_synth : ℕ → SynthAt → List ℕ → List ℕ
settled_synth rate s ws = settled_units rate s.definition.units s.state.at ws

-- of some, one after the other
abbrev pub all_triggers : ℕ → ℕ → List SynthAt → List ℕ → List Notice
all_triggers rate b [] ws = []
all_triggers rate b (s ∷ ss) ws = synth_triggers rate b s ws ++ all_triggers rate b ss ws

abbrev pub all_endings : ℕ → List SynthAt → List ℕ → List Ending
all_endings rate [] ws = []
all_endings rate (s ∷ ss) ws = synth_endings rate s ws ++ all_endings rate ss ws

abbrev pub all_settled : ℕ → List SynthAt → List ℕ → List ℕ
all_settled rate [] ws = ws
all_settled rate (s ∷ ss) ws = all_settled rate ss (settled_synth rate s ws)

-- how many triggers and ends may come of them
abbrev pub all_room : List SynthAt → ℕ
all_room [] = 0
all_room (s ∷ ss) = units_room s.definition.units + all_room ss

-- ---- where their words are

-- in the region of the pool
pub record IsWithin (rate : ℕ) (region : Extent) (s : SynthAt) : Type 0 where
  pub size : s.state.len ≡ state_words rate s.definition
  pub within : LiesIn region s.state

abbrev pub AreWithin : ℕ → Extent → List SynthAt → Type 0
AreWithin rate region [] = Unit {0}
AreWithin rate region (s ∷ ss) = IsWithin rate region s × AreWithin rate region ss
