-- What synths cost: as much as they have units.
use Rattle.std.specs.Prelude.{ℕ, ◌+◌, ℤ, List, [], ◌∷◌, Option, Some, None}
use Rattle.std.specs.Option.{option_map}
use Rattle.sn_tree.specs.Trees.{Nodes, label_of}
use Rattle.sn_world.specs.declared.stage.Held.{Held}
use Rattle.sn_world.specs.declared.stage.Stage.{Stage}
use Rattle.sn_world.specs.Pictures.{units_of}

-- the units of what a node holds, none if there is nothing
abbrev pub units_or_none : Option Held → ℕ
units_or_none None = 0
units_or_none (Some h) = units_of h

-- the units of the node with an id, none if there is no such node
abbrev pub units_at : Nodes Held → ℤ → ℕ
units_at nodes id = units_or_none (option_map (λ l. l.payload) (label_of id nodes))

abbrev pub units_in : Stage → ℤ → ℕ
units_in stage id = units_at stage.tree.attached id

-- what the synths with these ids cost together
abbrev pub cost_of : (ℤ → ℕ) → List ℤ → ℕ
cost_of units [] = 0
cost_of units (id ∷ ids) = units id + cost_of units ids
