use Rattle.std.proofs.Common.{◌≤◌, ◌∙◌, ap, subst, sym, w32, rules}
use Rattle.std.proofs.lemmas.Int.{to_z-of_z}
use Rattle.sn_forest.specs.Trees.{count}
use Rattle.sn_tree.specs.Members.{tops}
use Rattle.sn_tree.specs.Keyed.{labels}
use Rattle.sn_tree.proofs.Walking.{first_held, left_next, never, fewer}
use Rattle.sn_tree.proofs.Listing.{few_below, few_next, member_given, members_end}
use Rattle.sn_tree.proofs.members.MembersIterator.next.Goals as goal

pub returns-in_default-clause-steps : goal.returns-in_default-clause-steps
returns-in_default-clause-steps g c =
    let e = sym c.self.view_is ∙ members_end c.self.inside.root.now c.self.inside.payloads.now.slots c.self.inside.rest c.in_default.ensures in
    (e, e)

pub returns-in_default-payload_at-clause-steps : goal.returns-in_default-payload_at-clause-steps
returns-in_default-payload_at-clause-steps g c =
    never _ _ (first_held c.self.inside.root.now c.self.inside.payloads.now.slots c.self.inside.rest c.in-Some.row.key c.in-Some.row.item.now c.self.invariant.0 c.in-Some.ensures) c.in_default-payload_at.ensures

pub count_tops-children-requires : goal.count_tops-children-requires
count_tops-children-requires g c = subst (λ t. count t ≤ 4096) (sym c.below.ensures) (few_below c.self.inside.rest c.in-Some.row.key c.in-Some.row.item.now 4096 c.in-Some.ensures c.self.invariant.1)

pub invariant_of-self : goal.invariant_of-self
invariant_of-self g c = (
  left_next c.self.inside.payloads.now.slots c.self.inside.rest c.step.new.self c.in-Some.row.key c.in-Some.row.item.now c.self.invariant.0 c.in-Some.ensures c.step.ensures,
  few_next c.self.inside.rest c.step.new.self c.in-Some.row.key c.in-Some.row.item.now 4096 c.in-Some.ensures c.step.ensures c.self.invariant.1,
)

pub returns-clause-steps : goal.returns-clause-steps
returns-clause-steps g c =
    sym c.self.view_is
    ∙ member_given c.self.inside.root.now c.self.inside.payloads.now.slots c.self.inside.rest c.step.new.self c.in-Some.row.key c.in-Some.row.item.now _ c.in-Some-payload_at.payload.now c.count_tops-children.result
    c.self.invariant.0 c.in-Some.ensures c.step.ensures (to_z-of_z w32 _ (search rules)) c.in-Some-payload_at.ensures (c.count_tops-children.ensures ∙ ap (λ t. tops (labels t)) c.below.ensures)

pub returns-clause-goes : goal.returns-clause-goes
returns-clause-goes g c =
    let less = fewer _ _ _ (returns-clause-steps g c) in
    record { on = λ _. (tt, tt, less); keeps = tt; rests = λ _. tt }
