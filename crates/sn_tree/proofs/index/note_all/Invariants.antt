use Rattle.sn_forest.specs.Trees.{count, subtree}
use Rattle.sn_tree.specs.Keyed.{left_at}
use Rattle.sn_tree.proofs.Indexing.{IsNoting}
use Rattle.sn_tree.proofs.index.note_all.Given as goal

abbrev pub invariant-loop-next : goal.invariant-loop-next
invariant-loop-next l = IsNoting l.forest l.top l.fn.ids l.ids l.next

abbrev pub decreases-loop-next : goal.decreases-loop-next
decreases-loop-next l = count (left_at l.next (subtree l.top l.forest))
