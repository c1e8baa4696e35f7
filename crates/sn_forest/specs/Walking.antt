-- What a walk still has to reach. A walk goes from a node to those below it, and then to those after it.
use Rattle.std.specs.Prelude.{ℕ, ◌==◌, if◌then◌else◌}
use Rattle.sn_forest.specs.Trees.{Trees, none, tree, has_key, joined}

module _ {T : Type 0} where
  -- what a walk reaches from a node on: its tree, and after it, as trees beside it, what comes after
  abbrev pub from : ℕ → Trees T → Trees T
  from k none = none
  from k (tree key value below after) =
      if key == k then tree key value below after
      else if has_key k below then joined (from k below) after
      else from k after

  -- what is left after the first node, and after the first tree
  abbrev pub behind_node : Trees T → Trees T
  behind_node none = none
  behind_node (tree key value below after) = joined below after

  abbrev pub behind_tree : Trees T → Trees T
  behind_tree none = none
  behind_tree (tree key value below after) = after
