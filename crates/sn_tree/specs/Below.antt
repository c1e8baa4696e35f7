-- The ids of nodes that lie below a node.
use Rattle.std.specs.Prelude.{ℤ, if◌then◌else◌, List, [], ◌∷◌, ◌++◌}
use Rattle.sn_tree.specs.Trees.{Nodes, none, node}
use Rattle.sn_tree.specs.Faults.{is_synth}

module _ {P : Type 0} where
  -- of the nodes that stand beside each other
  abbrev pub top_ids : Nodes P → List ℤ
  top_ids none = []
  top_ids (node label below after) = label.id ∷ top_ids after

  -- of all synths, in the order of the walk
  abbrev pub synth_ids : Nodes P → List ℤ
  synth_ids none = []
  synth_ids (node label below after) =
      if is_synth label.kind then label.id ∷ (synth_ids below ++ synth_ids after)
      else synth_ids below ++ synth_ids after
