use Rattle.sn_forest.specs.Trees.{count, subtree}
use Rattle.sn_tree.specs.Keyed.{left_at}
use Rattle.sn_tree.proofs.Indexing.{IsForgetting}
use Rattle.sn_tree.proofs.index.forget_all.Given as goal

abbrev pub invariant-loop-next : goal.invariant-loop-next
invariant-loop-next l = IsForgetting l.forest l.top l.fn.ids l.ids l.next

abbrev pub decreases-loop-next : goal.decreases-loop-next
decreases-loop-next l = count (left_at l.next (subtree l.top l.forest))
