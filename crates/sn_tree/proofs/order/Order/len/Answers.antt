use Rattle.std.proofs.Common.{◌∙◌, ap, sym, arith}
use Rattle.sn_tree.specs.Trees.{count}
use Rattle.sn_tree.specs.Keyed.{front}
use Rattle.sn_tree.specs.Ordered.{Ordered}
use Rattle.sn_tree.proofs.OrderLaws.{count-labels}
use Rattle.sn_tree.proofs.order.Order.len.Goals as goal

pub returns-clause-value : goal.returns-clause-value
returns-clause-value c = c.len.ensures ∙ (sym (count-labels (front c.self.inside.store)) ∙ ap (λ (o : Ordered). count o.now.attached) c.self.view_is)

pub returns-clause-bound : goal.returns-clause-bound
returns-clause-bound c = omega (arith, c.len.ensures, c.self.invariant.1)
