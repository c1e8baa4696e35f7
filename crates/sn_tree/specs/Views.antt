-- The places of a node and of all nodes below it.
use Rattle.std.specs.Prelude.{ℤ, negsuc, if◌then◌else◌, List, [], ◌∷◌, ◌++◌}
use Rattle.std.specs.Ordering.{int_eq}
use Rattle.sn_tree.specs.declared.node.NodeView.{NodeView}
use Rattle.sn_tree.specs.Trees.{Label, Nodes, none, node, holds, first_id, last_id}

module _ {P : Type 0} where
  -- how a node is seen that has this parent, this node before it, these below it and these after it
  abbrev pub seen : ℤ → ℤ → Label P → Nodes P → Nodes P → NodeView
  seen parent previous label below after =
      record { kind = label.kind; running = label.running; parent = parent; previous = previous; next = first_id after; head = first_id below; tail = last_id (negsuc 0) below }

  -- each of the nodes that have this parent and come after this one, and each node below them, in the order of the walk
  abbrev pub views_from : ℤ → ℤ → Nodes P → List (ℤ × NodeView)
  views_from parent previous none = []
  views_from parent previous (node label below after) =
      (label.id, seen parent previous label below after) ∷ (views_from label.id (negsuc 0) below ++ views_from parent label.id after)

  -- the same of a node and all below it
  abbrev pub views_at : ℤ → ℤ → ℤ → Nodes P → List (ℤ × NodeView)
  views_at parent previous id none = []
  views_at parent previous id (node label below after) =
      if int_eq label.id id then (label.id, seen parent previous label below after) ∷ views_from label.id (negsuc 0) below
      else if holds id below then views_at label.id (negsuc 0) id below
      else views_at parent label.id id after

  -- where a node and all below it stand, in the order of the walk
  abbrev pub views_below : ℤ → Nodes P → List (ℤ × NodeView)
  views_below id nodes = views_at (negsuc 0) (negsuc 0) id nodes
