use Rattle.std.proofs.Common.{◌∙◌, refl, sym, w32, rules}
use Rattle.std.proofs.lemmas.Int.{to_z-of_z}
use Rattle.sn_tree.proofs.Walking.{ended, first_held, given, left_next, left_within, never, fewer}
use Rattle.sn_tree.proofs.walk.WalkIterator.next.Goals as goal

pub invariant_of-self : goal.invariant_of-self
invariant_of-self g c = left_within c.self.inside.payloads.now.slots c.self.inside.rest c.skip_paused.new.rest c.self.invariant c.skip_paused.ensures.within

pub returns-in_default-clause-steps : goal.returns-in_default-clause-steps
returns-in_default-clause-steps g c =
    let old = sym c.self.view_is ∙ ended c.self.inside.root.now c.self.inside.payloads.now.slots c.self.inside.rest c.skip_paused.new.rest c.skip_paused.ensures.same c.in_default.ensures in
    let new = ended c.self.inside.root.now c.self.inside.payloads.now.slots c.skip_paused.new.rest c.skip_paused.new.rest refl c.in_default.ensures in
    (old, new)

pub returns-in_default-payload_at-clause-steps : goal.returns-in_default-payload_at-clause-steps
returns-in_default-payload_at-clause-steps g c =
    never _ _ (first_held c.self.inside.root.now c.self.inside.payloads.now.slots c.skip_paused.new.rest c.in-Some.row.key c.in-Some.row.item.now (left_within c.self.inside.payloads.now.slots c.self.inside.rest c.skip_paused.new.rest c.self.invariant c.skip_paused.ensures.within) c.in-Some.ensures) c.in_default-payload_at.ensures

pub invariant_of-self-2 : goal.invariant_of-self-2
invariant_of-self-2 g c =
    left_next c.self.inside.payloads.now.slots c.skip_paused.new.rest c.step.new.self c.in-Some.row.key c.in-Some.row.item.now (left_within c.self.inside.payloads.now.slots c.self.inside.rest c.skip_paused.new.rest c.self.invariant c.skip_paused.ensures.within) c.in-Some.ensures c.step.ensures

pub returns-clause-steps : goal.returns-clause-steps
returns-clause-steps g c =
    sym c.self.view_is
    ∙ given c.self.inside.root.now c.self.inside.payloads.now.slots c.self.inside.rest c.skip_paused.new.rest c.step.new.self c.in-Some.row.key c.in-Some.row.item.now _ c.in-Some-payload_at.payload.now
    (left_within c.self.inside.payloads.now.slots c.self.inside.rest c.skip_paused.new.rest c.self.invariant c.skip_paused.ensures.within) c.skip_paused.ensures.same c.skip_paused.ensures.runs c.in-Some.ensures c.step.ensures
    (to_z-of_z w32 _ (search rules)) c.in-Some-payload_at.ensures

pub returns-clause-goes : goal.returns-clause-goes
returns-clause-goes g c =
    let less = fewer _ _ _ (returns-clause-steps g c) in
    record { on = λ _. (tt, tt, less); keeps = tt; rests = λ _. tt }
