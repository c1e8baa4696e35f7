use Rattle.std.proofs.Common.{sym, ap, ◌∙◌, subst, w32}
use mir.Val.{SFits}
use Rattle.std.specs.List.{insert}
use Rattle.std.proofs.lemmas.Int.{to_z-of_z}
use Rattle.sn_ids.specs.Pairs.{Pairs, Table, IsRising, IsGapFor, key_for}
use Rattle.sn_ids.proofs.Place.{not_both, found_inserted, rising_inserted}
use Rattle.sn_ids.proofs.ids.Ids.insert.Goals as goal

pub unreachable-requires : goal.unreachable-requires
unreachable-requires c =
    let fit : SFits w32 c.args.id = c.ranges.id in
    let h = simp to_z-of_z at c.in-Ok.ensures in
    not_both c.args.self.now.pairs (subst (λ l. IsRising l) (ap (λ (t : Table). t.pairs) c.self.view_is) c.self.invariant) c.args.id c.in-Ok.field-0 h.found c.requires.absent

pub invariant_of-self : goal.invariant_of-self
invariant_of-self c =
    let fit : SFits w32 c.args.id = c.ranges.id in
    let h = simp to_z-of_z at c.in-Err.ensures in
    let put = simp to_z-of_z at c.in-Ok-insert.ensures in
    rising_inserted c.self.inside.pairs.items c.insert.new.self.items c.args.id c.args.key c.in-Err.at
    (subst (λ (l : Pairs). IsGapFor l c.args.id c.in-Err.at) (sym (ap (λ (t : Table). t.pairs) c.self.view_is)) h.absent) c.self.invariant put.items

pub returns-clause-finds : goal.returns-clause-finds
returns-clause-finds c other =
    let fit : SFits w32 c.args.id = c.ranges.id in
    let h = simp to_z-of_z at c.in-Err.ensures in
    let put = simp to_z-of_z at c.in-Ok-insert.ensures in
    ap (key_for other) (put.items ∙ ap (λ (t : Table). insert t.pairs c.in-Err.at (c.args.id, c.args.key)) c.self.view_is)
    ∙ found_inserted c.args.self.now.pairs c.args.id c.in-Err.at h.absent c.args.key other
