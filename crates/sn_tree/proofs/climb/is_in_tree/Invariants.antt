use Rattle.sn_tree.proofs.ClimbLaws.{IsGoingUp, outside}
use Rattle.sn_tree.proofs.climb.is_in_tree.Given as goal

abbrev pub invariant-loop-next : goal.invariant-loop-next
invariant-loop-next l = IsGoingUp l.forest l.key l.top l.next

abbrev pub decreases-loop-next : goal.decreases-loop-next
decreases-loop-next l = outside l.forest l.next
