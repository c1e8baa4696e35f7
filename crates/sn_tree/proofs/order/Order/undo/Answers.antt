use Rattle.std.proofs.Common.{◌≡◌, ◌∙◌, ap, sym, subst, Some, None}
use Rattle.sn_tree.specs.Keyed.{sides}
use Rattle.sn_tree.specs.Undoing.{restored, IsUndoable}
use Rattle.sn_tree.specs.Ordered.{Ordered, ordered_by, saved_by, made_by, restored_by, restored_nodes, IsReady}
use Rattle.sn_tree.proofs.OrderGives.{Gives, undone_gives}
use Rattle.sn_tree.proofs.order.Order.undo.Goals as goal

pub undo_all-requires : goal.undo_all-requires
undo_all-requires c =
    let is : c.self.inside.journal ≡ Some c.in-Some.journal = sym c.take.ensures.value ∙ c.in-Some.is in
    let ready : IsReady c.self.inside.store (Some c.in-Some.journal) = subst (IsReady c.self.inside.store) is c.self.invariant.0 in
    subst (λ l. IsUndoable l c.self.inside.store) (sym c.into_parts-steps.ensures.steps) ready.0

pub invariant_of-self : goal.invariant_of-self
invariant_of-self c =
    let is : c.self.inside.journal ≡ Some c.in-Some.journal = sym c.take.ensures.value ∙ c.in-Some.is in
    let ready : IsReady c.self.inside.store (Some c.in-Some.journal) = subst (IsReady c.self.inside.store) is c.self.invariant.0 in
    let g : Gives c.undo_all.new.store None (restored_nodes (sides c.self.inside.store) (saved_by c.self.inside.store (Some c.in-Some.journal))) None =
    undone_gives c.self.inside.store c.undo_all.new.store c.in-Some.journal ready (c.undo_all.ensures ∙ ap (λ l. restored l c.self.inside.store) c.into_parts-steps.ensures.steps) in
    (subst (IsReady c.undo_all.new.store) (sym c.take.ensures.after) g.ready, g.few)

pub returns-in-Some-clause-nodes : goal.returns-in-Some-clause-nodes
returns-in-Some-clause-nodes c =
    let is : c.self.inside.journal ≡ Some c.in-Some.journal = sym c.take.ensures.value ∙ c.in-Some.is in
    let ready : IsReady c.self.inside.store (Some c.in-Some.journal) = subst (IsReady c.self.inside.store) is c.self.invariant.0 in
    let g : Gives c.undo_all.new.store None (restored_nodes (sides c.self.inside.store) (saved_by c.self.inside.store (Some c.in-Some.journal))) None =
    undone_gives c.self.inside.store c.undo_all.new.store c.in-Some.journal ready (c.undo_all.ensures ∙ ap (λ l. restored l c.self.inside.store) c.into_parts-steps.ensures.steps) in
    ap (ordered_by c.undo_all.new.store) c.take.ensures.after
    ∙ (g.shows
    ∙ (ap (λ q. let n : Ordered = record { now = restored_nodes (sides c.self.inside.store) (saved_by c.self.inside.store q); saved = None } in n) (sym is)
    ∙ ap (λ (o : Ordered). let n : Ordered = record { now = restored_by o; saved = None } in n) c.self.view_is))

pub returns-in-Some-clause-made : goal.returns-in-Some-clause-made
returns-in-Some-clause-made c =
    let is : c.self.inside.journal ≡ Some c.in-Some.journal = sym c.take.ensures.value ∙ c.in-Some.is in
    ap Some c.into_parts-steps.ensures.made ∙ (ap (λ q. made_by (saved_by c.self.inside.store q)) (sym is) ∙ ap (λ (o : Ordered). made_by o.saved) c.self.view_is)

pub invariant_of-self-in-None : goal.invariant_of-self-in-None
invariant_of-self-in-None c = (subst (IsReady c.self.inside.store) (sym c.take.ensures.after) tt, c.self.invariant.1)

pub returns-in-None-clause-nodes : goal.returns-in-None-clause-nodes
returns-in-None-clause-nodes c =
    let is : c.self.inside.journal ≡ None = sym c.take.ensures.value ∙ c.in-None.is in
    ap (ordered_by c.self.inside.store) c.take.ensures.after
    ∙ (ap (λ q. let n : Ordered = record { now = restored_nodes (sides c.self.inside.store) (saved_by c.self.inside.store q); saved = None } in n) (sym is)
    ∙ ap (λ (o : Ordered). let n : Ordered = record { now = restored_by o; saved = None } in n) c.self.view_is)

pub returns-in-None-clause-made : goal.returns-in-None-clause-made
returns-in-None-clause-made c =
    let is : c.self.inside.journal ≡ None = sym c.take.ensures.value ∙ c.in-None.is in
    ap (λ q. made_by (saved_by c.self.inside.store q)) (sym is) ∙ ap (λ (o : Ordered). made_by o.saved) c.self.view_is
