-- What a walk over nodes tells of each of them.
use Rattle.std.specs.Prelude.{◌≤◌, ℕ, ℤ, pos, negsuc, List, [], ◌∷◌, ◌++◌, codes}
use Rattle.std.specs.List.{AllByRecursion}
use Rattle.sn_ports.specs.Limits.{most_nodes}
use Rattle.sn_osc.specs.Shape.{Argument, int, string, arguments, MessageShape}
use Rattle.sn_tree.specs.Trees.{Label}
use Rattle.sn_world.specs.declared.stage.Held.{Held}
use Rattle.sn_world.specs.declared.stage.Held.TheVariants as held

-- a group and the number of its children, or a synth, -1 and the name of its definition
abbrev pub held_arguments : ℤ → Held → ℕ → List Argument
held_arguments id held.Group children = int id ∷ int (pos children) ∷ []
held_arguments id (held.Synth def controls state) children = int id ∷ int (negsuc 0) ∷ string def.value.name.bytes ∷ []

-- each of the nodes that a walk has still to reach
abbrev pub described : List (Label Held × ℕ) → List Argument
described [] = []
described (m ∷ ms) = held_arguments m.0.id m.0.payload m.1 ++ described ms

-- none of them has more children than a tree has nodes
abbrev pub HaveFew : List (Label Held × ℕ) → Type 0
HaveFew ms = AllByRecursion (λ (m : Label Held × ℕ). m.1 ≤ most_nodes) ms

-- the reply of a group with so many children and these nodes below it
abbrev pub tree_reply : ℤ → ℕ → List (Label Held × ℕ) → MessageShape
tree_reply id children ms = record {
  address = codes "/g_queryTree.reply";
  body = arguments (int (pos 0) ∷ int id ∷ int (pos children) ∷ described ms);
}
