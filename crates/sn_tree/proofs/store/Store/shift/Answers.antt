use Rattle.std.proofs.Common.{arith, ◌≡◌, ◌∙◌, ◌+◌, ◌≤◌, ℕ, ℤ, length, None, sym, subst, ap}
use Rattle.sn_forest.specs.Trees.{Trees, uses, count, first_key, subtree, without}
use Rattle.sn_forest.specs.Places.{IsPlaceIn, key_of, shifted}
use Rattle.sn_forest.proofs.Holes.{place_used}
use Rattle.sn_ids.specs.Pairs.{key_for}
use Rattle.sn_tree.specs.declared.item.Item.{Item}
use Rattle.sn_tree.specs.Keyed.{only, named, names, noted}
use Rattle.sn_tree.specs.Stored.{IsSound, IsStored}
use Rattle.sn_tree.proofs.Sums.{uses_sum, out_all}
use Rattle.sn_tree.proofs.ShiftLaws.{shifting_seen}
use Rattle.sn_tree.proofs.store.Store.shift.Goals as goal

pub is_among-to-requires : goal.is_among-to-requires
is_among-to-requires c =
    omega (
      arith,
      place_used (without c.args.key c.args.self.now) c.args.place c.requires.place,
      out_all (λ (t : Trees Item). uses (key_of c.args.place) t) (uses_sum (key_of c.args.place)) c.args.key c.args.self.now (subst (λ t. (j : ℕ) → uses j t ≤ 1) c.self.view_is c.keys_differ.ensures) c.requires.node,
    )

pub forget_leaving-requires-clause-top : goal.forget_leaving-requires-clause-top
forget_leaving-requires-clause-top c = subst (λ x. 1 ≤ uses c.args.key x) (sym c.self.view_is) c.requires.node

pub forget_leaving-requires-clause-there : goal.forget_leaving-requires-clause-there
forget_leaving-requires-clause-there c = (shifting_seen c.self.inside.forest c.args.self.now c.self.view_is c.self.inside.ids c.args.key c.args.place c.is_attached-from.result c.is_among-to.result c.keys_differ.ensures c.requires.node c.requires.inner c.requires.place c.self.invariant c.is_attached-from.ensures c.is_among-to.ensures).there

pub move_to-requires-clause-node : goal.move_to-requires-clause-node
move_to-requires-clause-node c = subst (λ x. 1 ≤ uses c.args.key x) (sym c.self.view_is) c.requires.node

pub move_to-requires-clause-inner : goal.move_to-requires-clause-inner
move_to-requires-clause-inner c = λ e. c.requires.inner (sym (ap first_key c.self.view_is) ∙ e)

pub move_to-requires-clause-place : goal.move_to-requires-clause-place
move_to-requires-clause-place c = subst (λ x. IsPlaceIn (without c.args.key x) c.args.place) (sym c.self.view_is) c.requires.place

pub note_coming-requires-clause-top : goal.note_coming-requires-clause-top
note_coming-requires-clause-top c = subst (λ t. 1 ≤ uses c.args.key t) (sym c.move_to.ensures) (shifting_seen c.self.inside.forest c.args.self.now c.self.view_is c.self.inside.ids c.args.key c.args.place c.is_attached-from.result c.is_among-to.result c.keys_differ.ensures c.requires.node c.requires.inner c.requires.place c.self.invariant c.is_attached-from.ensures c.is_among-to.ensures).used

pub note_coming-requires-clause-distinct : goal.note_coming-requires-clause-distinct
note_coming-requires-clause-distinct c =
    subst (λ t. (id : ℤ) → names id (only c.is_among-to.result c.is_attached-from.result (subtree c.args.key t)) ≤ 1) (sym c.move_to.ensures)
    ((shifting_seen c.self.inside.forest c.args.self.now c.self.view_is c.self.inside.ids c.args.key c.args.place c.is_attached-from.result c.is_among-to.result c.keys_differ.ensures c.requires.node c.requires.inner c.requires.place c.self.invariant c.is_attached-from.ensures c.is_among-to.ensures).distinct c.forget_leaving.new.ids (record { gone = c.forget_leaving.ensures.gone; fewer = c.forget_leaving.ensures.len; room = c.forget_leaving.ensures.room }) (subst (λ x. IsSound (shifted c.args.key c.args.place x)) (sym c.self.view_is) c.requires.sound))

pub note_coming-requires-clause-absent : goal.note_coming-requires-clause-absent
note_coming-requires-clause-absent c =
    subst (λ t. (id : ℤ) → 1 ≤ names id (only c.is_among-to.result c.is_attached-from.result (subtree c.args.key t)) → key_for id c.forget_leaving.new.ids.pairs ≡ None) (sym c.move_to.ensures)
    ((shifting_seen c.self.inside.forest c.args.self.now c.self.view_is c.self.inside.ids c.args.key c.args.place c.is_attached-from.result c.is_among-to.result c.keys_differ.ensures c.requires.node c.requires.inner c.requires.place c.self.invariant c.is_attached-from.ensures c.is_among-to.ensures).absent c.forget_leaving.new.ids (record { gone = c.forget_leaving.ensures.gone; fewer = c.forget_leaving.ensures.len; room = c.forget_leaving.ensures.room }) (subst (λ x. IsSound (shifted c.args.key c.args.place x)) (sym c.self.view_is) c.requires.sound))

pub note_coming-requires-clause-room : goal.note_coming-requires-clause-room
note_coming-requires-clause-room c =
    subst (λ t. length c.forget_leaving.new.ids.pairs + count (only c.is_among-to.result c.is_attached-from.result (subtree c.args.key t)) ≤ c.forget_leaving.new.ids.room) (sym c.move_to.ensures)
    ((shifting_seen c.self.inside.forest c.args.self.now c.self.view_is c.self.inside.ids c.args.key c.args.place c.is_attached-from.result c.is_among-to.result c.keys_differ.ensures c.requires.node c.requires.inner c.requires.place c.self.invariant c.is_attached-from.ensures c.is_among-to.ensures).room c.forget_leaving.new.ids (record { gone = c.forget_leaving.ensures.gone; fewer = c.forget_leaving.ensures.len; room = c.forget_leaving.ensures.room }))

pub invariant_of-self : goal.invariant_of-self
invariant_of-self c =
    subst (λ t. IsStored t c.note_coming.new.ids) (sym c.move_to.ensures)
    ((shifting_seen c.self.inside.forest c.args.self.now c.self.view_is c.self.inside.ids c.args.key c.args.place c.is_attached-from.result c.is_among-to.result c.keys_differ.ensures c.requires.node c.requires.inner c.requires.place c.self.invariant c.is_attached-from.ensures c.is_among-to.ensures).stored c.forget_leaving.new.ids c.note_coming.new.ids (record { gone = c.forget_leaving.ensures.gone; fewer = c.forget_leaving.ensures.len; room = c.forget_leaving.ensures.room }) (subst (λ x. IsSound (shifted c.args.key c.args.place x)) (sym c.self.view_is) c.requires.sound)
    (subst (λ t. (id : ℤ) (key : ℕ) → noted id key c.note_coming.new.ids.pairs ≡ noted id key c.forget_leaving.new.ids.pairs + named id key (only c.is_among-to.result c.is_attached-from.result (subtree c.args.key t))) c.move_to.ensures c.note_coming.ensures.come)
    (subst (λ t. length c.note_coming.new.ids.pairs ≡ length c.forget_leaving.new.ids.pairs + count (only c.is_among-to.result c.is_attached-from.result (subtree c.args.key t))) c.move_to.ensures c.note_coming.ensures.len)
    c.note_coming.ensures.room)
