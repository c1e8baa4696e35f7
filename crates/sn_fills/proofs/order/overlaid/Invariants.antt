use Rattle.sn_fills.proofs.Overlaying.{IsOverlaidSoFar}
use Rattle.sn_fills.proofs.order.overlaid.Given as goal

abbrev pub invariant-loop-fill : goal.invariant-loop-fill
invariant-loop-fill l = IsOverlaidSoFar l.earlier l.later l.fill-index l.index l.row.end l.row.fills.items
