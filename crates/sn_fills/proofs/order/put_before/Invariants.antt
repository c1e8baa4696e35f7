use Rattle.sn_fills.proofs.Putting.{ArePutSoFar}
use Rattle.sn_fills.proofs.order.put_before.Given as goal

abbrev pub invariant-loop-next : goal.invariant-loop-next
invariant-loop-next l = ArePutSoFar l.fills l.until l.next l.fn.row.end l.fn.row.fills.items l.row.end l.row.fills.items
