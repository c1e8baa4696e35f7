-- A node and all nodes below it, each with the number of nodes just below it.
use Rattle.std.specs.Prelude.{ℕ, ◌+◌, List, [], ◌∷◌, ◌++◌, Option}
use Rattle.std.specs.Coded.{Coded, coded×, coded_list, coded_ℕ}
use Rattle.sn_forest.specs.Trees.{Trees}
use Rattle.sn_tree.specs.declared.item.Item.{Item}
use Rattle.sn_tree.specs.Trees.{Label, Nodes, none, node, with_payloads}
use Rattle.sn_tree.specs.Model.{label_code}
use Rattle.sn_tree.specs.Kept.{payload_of}
use Rattle.sn_tree.specs.Keyed.{labels}

module _ {P : Type 0} where
  -- how many nodes stand beside each other
  abbrev pub tops : Nodes P → ℕ
  tops none = 0
  tops (node label below after) = 1 + tops after

  -- each node with the number of its children, in the order of the walk
  abbrev pub members : Nodes P → List (Label P × ℕ)
  members none = []
  members (node label below after) = (label, tops below) ∷ (members below ++ members after)

abbrev pub members_code : {P : Type 0} → Coded P → Coded (List (Label P × ℕ))
members_code code = coded_list (coded× (label_code code) coded_ℕ)

-- the nodes that are left of a walk over all of them
abbrev pub members_of : {P : Type 0} → P → List (Option P) → Trees Item → List (Label P × ℕ)
members_of root slots rest = members (with_payloads (payload_of root slots) (labels rest))
