use Rattle.sn_tree.proofs.TopLaws.{IsSeeking, tops_left}
use Rattle.sn_tree.proofs.tops.last_top.Given as goal

abbrev pub invariant-loop-next : goal.invariant-loop-next
invariant-loop-next l = IsSeeking l.forest l.id l.next

abbrev pub decreases-loop-next : goal.decreases-loop-next
decreases-loop-next l = tops_left l.forest l.next
