use Rattle.std.proofs.Common.{◌∙◌, Some, [], ap, sym, subst}
use Rattle.sn_tree.specs.Ordered.{Ordered, IsReady, ordered_by}
use Rattle.sn_tree.proofs.order.Order.begin.Goals as goal

pub invariant_of-self-2 : goal.invariant_of-self-2
invariant_of-self-2 c = (subst (λ j. IsReady c.self.inside.store (Some j)) (sym c.in_ok-new.ensures) (tt, c.self.invariant.1), c.self.invariant.1)

pub returns-clause-ok : goal.returns-clause-ok
returns-clause-ok c =
    ap (λ j. ordered_by c.self.inside.store (Some j)) c.in_ok-new.ensures
    ∙ ap (λ (o : Ordered). let n : Ordered = record { now = o.now; saved = Some (record { nodes = o.now; room = c.args.steps; made = [] }) } in n) c.self.view_is

pub invariant_of-self : goal.invariant_of-self
invariant_of-self c = c.self.invariant
