use Rattle.std.proofs.Common.{None, ap, arith}
use Rattle.sn_tree.specs.Trees.{count}
use Rattle.sn_tree.specs.Arranged.{Arranged}
use Rattle.sn_tree.specs.Keyed.{front}
use Rattle.sn_tree.specs.Ordered.{Ordered}
use Rattle.sn_tree.proofs.OrderLaws.{count-labels}
use Rattle.sn_tree.proofs.order.Order.new.Goals as goal

pub invariant_of-result : goal.invariant_of-result
invariant_of-result c = (tt, omega (arith, count-labels (front c.in_ok-new.field-0), ap (λ (a : Arranged). count a.attached) c.in_ok-new.ensures))

pub returns : goal.returns
returns c = ap (λ (a : Arranged). let n : Ordered = record { now = a; saved = None } in n) c.in_ok-new.ensures
