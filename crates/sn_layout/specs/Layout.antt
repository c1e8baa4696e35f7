-- What the clashes and the plan of a world depend on: its layout.
use Rattle.std.specs.Prelude.{ℕ, zero, suc, pos, Bool, true, false, List, [], ◌∷◌, map, Option}
use Rattle.std.specs.Option.{option_map}
use Rattle.sn_mem.specs.declared.extents.Extent.{Extent}
use Rattle.sn_mem.specs.Buffers.{Buffer}
use Rattle.sn_def.specs.declared.control.Control.{Control}
use Rattle.sn_def.specs.Asked.{is_index}
use Rattle.sn_tree.specs.Trees.{Nodes, with_payloads}
use Rattle.sn_world.specs.Nodes.{Content, group, synth}
use Rattle.sn_world.specs.World.{World}

-- a control that keeps its value, or has the value 0; the bus that it follows stays
abbrev pub kept_value : Bool → Control → Control
kept_value true c = c
kept_value false c = record c { value = pos 0 }

-- controls, of which those whose numbers pass a test keep their values
abbrev pub kept_values : (ℕ → Bool) → List Control → List Control
kept_values test [] = []
kept_values test (c ∷ cs) = kept_value (test zero) c ∷ kept_values (λ k. test (suc k)) cs

-- Of a synth the layout has its definition, where its state is, the values of its index controls, and which buses its
-- controls follow.
abbrev pub laid : Content → Content
laid group = group
laid (synth s) = synth (record s { controls = kept_values (is_index s.definition) s.controls; state = [] })

-- where the samples of a buffer are
abbrev pub extent_of : Buffer → Extent
extent_of b = b.extent

pub record Layout : Type 0 where
  pub nodes : Nodes Content
  pub buffers : List (Option Extent)

-- The layout of a world: its nodes, each with its id, its kind, its run flag and what is laid of it, and where its
-- buffers are.
abbrev pub layout_of : World → Layout
layout_of w = record { nodes = with_payloads laid w.nodes; buffers = map (option_map extent_of) w.buffers }
