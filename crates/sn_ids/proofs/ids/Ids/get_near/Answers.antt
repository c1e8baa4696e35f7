use Rattle.std.proofs.Common.{sym, ap, subst, arith, w32, pos}
use mir.Val.{SFits}
use Rattle.std.proofs.lemmas.Int.{to_z-of_z}
use Rattle.std.proofs.lemmas.List.{get_or_default}
use Rattle.sn_ids.specs.Pairs.{Table, IsRising}
use Rattle.sn_ids.proofs.Place.{key_at_place, key_in_gap}
use Rattle.sn_ids.proofs.ids.Ids.get_near.Goals as goal

pub returns-in-Ok : goal.returns-in-Ok
returns-in-Ok c =
    let fit : SFits w32 c.args.id = c.ranges.id in
    let h = simp to_z-of_z at c.in-Ok.ensures in
    let value = key_at_place _ (subst (λ l. IsRising l) (ap (λ (t : Table). t.pairs) c.self.view_is) c.self.invariant) _ _ h.found in
    let read = get_or_default _ _ c.index.result.now (pos 0, 0) h.found.in_range in
    grind (arith, c.self.view_is)

pub returns-in-Err : goal.returns-in-Err
returns-in-Err c =
    let fit : SFits w32 c.args.id = c.ranges.id in
    let h = simp to_z-of_z at c.in-Err.ensures in
    sym (key_in_gap _ _ _ h.absent)
