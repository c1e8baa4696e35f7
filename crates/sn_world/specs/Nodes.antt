-- What the nodes of a world hold, and the words that they take from the pool.
use Rattle.std.specs.Prelude.{ℕ, List, [], ◌∷◌, ◌++◌}
use Rattle.sn_mem.specs.declared.extents.Extent.{Extent}
use Rattle.sn_mem.specs.Blocks.{window}
use Rattle.sn_def.specs.declared.control.Control.{Control}
use Rattle.sn_def.specs.Definition.{Definition}
use Rattle.sn_def.specs.Defs.{definition_of}
use Rattle.sn_tree.specs.Trees.{Nodes, none, node}
use Rattle.sn_world.specs.declared.stage.Held.{Held}
use Rattle.sn_world.specs.declared.stage.Held.TheVariants as held

-- a synth: its definition, its controls, the words of its units' states in their order, and where the pool keeps them
pub record Synth : Type 0 where
  pub definition : Definition
  pub controls : List Control
  pub state : List ℕ
  pub extent : Extent

pub data Content : Type 0 where
  group : Content
  synth : Synth → Content

-- what a node of the stage holds, with the words of its state
abbrev pub content_of : List ℕ → Held → Content
content_of words held.Group = group
content_of words (held.Synth def controls state) = synth (record { definition = definition_of def.value; controls = controls; state = window words state.at state.len; extent = state })

-- where the pool keeps the words of a node, and of all nodes in the order of the walk
abbrev pub extents_of : Content → List Extent
extents_of group = []
extents_of (synth s) = s.extent ∷ []

abbrev pub live_in : Nodes Content → List Extent
live_in none = []
live_in (node label below after) = extents_of label.payload ++ (live_in below ++ live_in after)
