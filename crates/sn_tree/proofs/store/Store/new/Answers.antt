use Rattle.std.proofs.Common.{◌∙◌, pos, refl, ap, sym, arith}
use Rattle.std.proofs.lemmas.Int.{ints}
use Rattle.sn_ids.specs.Pairs.{key_for}
use Rattle.sn_tree.specs.Keyed.{sides}
use Rattle.sn_tree.proofs.Stopping.{first_used}
use Rattle.sn_tree.proofs.SoundLaws.{root_stored}
use Rattle.sn_tree.proofs.store.Store.new.Goals as goal

pub overflow_cast-key : goal.overflow_cast-key
overflow_cast-key c = omega (arith, ints, c.keys_fit.ensures c.root-key.result (first_used c.in_ok-forest.forest c.root-key.result (sym c.root-key.ensures)))

pub insert-requires-clause-absent : goal.insert-requires-clause-absent
insert-requires-clause-absent c = ap (key_for (pos 0)) (c.reserve.ensures.pairs ∙ c.new-ids.ensures)

pub insert-requires-clause-room : goal.insert-requires-clause-room
insert-requires-clause-room c = omega (arith, c.in_ok-reserve.ensures.room)

pub invariant_of-result : goal.invariant_of-result
invariant_of-result c =
    root_stored c.in_ok-forest.forest c.reserve.new.self c.insert.new.self c.root-key.result c.in_ok-forest.ensures.ok.0 _ c.in_ok-forest.ensures.ok.1 c.root-key.ensures refl refl refl (c.reserve.ensures.pairs ∙ c.new-ids.ensures) c.insert.ensures.finds c.insert.ensures.len
    (omega (arith, c.insert.ensures.same_room, c.in_ok-reserve.ensures.room))

pub returns : goal.returns
returns c = ap sides c.in_ok-forest.ensures.ok.1
