use Rattle.std.proofs.Common.{w32, rules, ◌≡◌, ◌∙◌, ◌≤◌, arith, ap, sym, subst, length}
use mir.Val.{SFits}
use Rattle.std.proofs.lemmas.Int.{ints, to_z-of_z}
use Rattle.sn_forest.specs.Trees.{none, tree, uses}
use Rattle.sn_forest.specs.Places.{put}
use Rattle.sn_ids.specs.Pairs.{Pairs, key_for}
use Rattle.sn_tree.specs.Keyed.{front, names}
use Rattle.sn_tree.specs.Stored.{IsAmong, IsStored}
use Rattle.sn_tree.proofs.SoundLaws.{some_stored, fewer_stored, regrown, absent_stored, insert_stored, new_used}
use Rattle.sn_tree.proofs.store.Store.insert.Goals as goal

pub overflow_sub-aside : goal.overflow_sub-aside
overflow_sub-aside c = omega (arith, fewer_stored c.self.inside.forest c.self.inside.ids c.self.invariant, c.len.ensures, c.len-2.ensures)

pub overflow_add-aside : goal.overflow_add-aside
overflow_add-aside c = omega (arith, some_stored c.self.inside.forest c.self.inside.ids c.self.invariant, fewer_stored c.self.inside.forest c.self.inside.ids c.self.invariant, c.len.ensures, c.len-2.ensures)

pub insert-requires : goal.insert-requires
insert-requires c = record { place = (subst (λ t. IsAmong t c.args.place) (sym c.self.view_is) c.requires.place).0 }

pub invariant_of-self : goal.invariant_of-self
invariant_of-self c = (regrown c.self.inside.forest c.self.inside.ids c.reserve.new.self c.self.invariant c.reserve.ensures.pairs c.reserve.ensures.grows)

pub invariant_of-self-in_err-key : goal.invariant_of-self-in_err-key
invariant_of-self-in_err-key c = subst (λ t. IsStored t c.reserve.new.self) (sym c.in_err-key.ensures.err) (regrown c.self.inside.forest c.self.inside.ids c.reserve.new.self c.self.invariant c.reserve.ensures.pairs c.reserve.ensures.grows)

pub overflow_cast-key : goal.overflow_cast-key
overflow_cast-key c =
    omega (arith, ints, c.keys_fit.ensures c.in_ok-key.key (subst (λ t. 1 ≤ uses c.in_ok-key.key t) (sym c.in_ok-key.ensures.ok) (new_used c.self.inside.forest c.args.place c.in_ok-key.key c.args.item.now c.keys_differ.ensures (subst (λ t. IsAmong t c.args.place) (sym c.self.view_is) c.requires.place).0)))

pub insert-requires-2-clause-absent : goal.insert-requires-2-clause-absent
insert-requires-2-clause-absent c =
    let fit : SFits w32 c.args.item.now.id = search rules in
    ap (λ n. key_for n c.reserve.new.self.pairs) (to_z-of_z w32 c.args.item.now.id fit) ∙ absent_stored c.self.inside.forest c.reserve.new.self c.args.item.now.id (regrown c.self.inside.forest c.self.inside.ids c.reserve.new.self c.self.invariant c.reserve.ensures.pairs c.reserve.ensures.grows) (subst (λ t. names c.args.item.now.id (front t) ≡ 0) (sym c.self.view_is) c.requires.absent)

pub insert-requires-2-clause-room : goal.insert-requires-2-clause-room
insert-requires-2-clause-room c = omega (arith, c.in_ok-reserve.ensures.room)

pub invariant_of-self-2 : goal.invariant_of-self-2
invariant_of-self-2 c =
    let fit : SFits w32 c.args.item.now.id = search rules in
    let finds = simp to_z-of_z at c.insert-2.ensures.finds in
    subst (λ t. IsStored t c.insert-2.new.self) (sym c.in_ok-key.ensures.ok)
    (insert_stored c.self.inside.forest c.reserve.new.self c.insert-2.new.self c.args.place c.in_ok-key.key c.args.item.now c.keys_differ.ensures (subst (λ t. IsAmong t c.args.place) (sym c.self.view_is) c.requires.place) (regrown c.self.inside.forest c.self.inside.ids c.reserve.new.self c.self.invariant c.reserve.ensures.pairs c.reserve.ensures.grows) (subst (λ t. names c.args.item.now.id (front t) ≡ 0) (sym c.self.view_is) c.requires.absent) finds c.insert-2.ensures.len
    (omega (arith, c.insert-2.ensures.same_room, c.in_ok-reserve.ensures.room, c.len.ensures, c.len-2.ensures, fewer_stored c.self.inside.forest c.self.inside.ids c.self.invariant, ap (λ (p : Pairs). length p) c.reserve.ensures.pairs)))

pub returns-clause-fresh : goal.returns-clause-fresh
returns-clause-fresh c = ap (uses c.in_ok-key.key) (sym c.self.view_is) ∙ c.in_ok-key.ensures.fresh

pub returns-clause-ok : goal.returns-clause-ok
returns-clause-ok c = c.in_ok-key.ensures.ok ∙ ap (put c.args.place (tree c.in_ok-key.key c.args.item.now none none)) c.self.view_is
