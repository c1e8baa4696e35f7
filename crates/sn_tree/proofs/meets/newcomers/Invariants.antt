use Rattle.sn_forest.specs.Trees.{count, subtree}
use Rattle.sn_tree.specs.Keyed.{left_at}
use Rattle.sn_tree.proofs.MeetLaws.{IsCounting}
use Rattle.sn_tree.proofs.meets.newcomers.Given as goal

abbrev pub invariant-loop-next : goal.invariant-loop-next
invariant-loop-next l = IsCounting l.forest l.top l.ids.pairs l.next l.count

abbrev pub decreases-loop-next : goal.decreases-loop-next
decreases-loop-next l = count (left_at l.next (subtree l.top l.forest))
