use Rattle.std.proofs.Common.{◌∙◌, ap, sym, subst, None}
use Rattle.sn_tree.specs.Ordered.{Ordered, ordered_by, IsReady}
use Rattle.sn_tree.proofs.order.Order.commit.Goals as goal

pub invariant_of-self : goal.invariant_of-self
invariant_of-self c = (subst (IsReady c.self.inside.store) (sym c.take-journal.ensures.after) tt, c.self.invariant.1)

pub returns : goal.returns
returns c = ap (ordered_by c.self.inside.store) c.take-journal.ensures.after ∙ ap (λ (o : Ordered). let n : Ordered = record { now = o.now; saved = None } in n) c.self.view_is
