use Rattle.std.proofs.Common.{ap, ◌∙◌, subst, w32}
use mir.Val.{SFits}
use Rattle.std.specs.List.{remove}
use Rattle.std.proofs.lemmas.Int.{to_z-of_z}
use Rattle.sn_ids.specs.Pairs.{Table, IsRising, key_for}
use Rattle.sn_ids.proofs.Place.{found_removed, removed_long, kept_out, kept_long}
use Rattle.sn_ids.proofs.ids.Ids.remove.Goals as goal

pub returns-in-Ok-clause-finds : goal.returns-in-Ok-clause-finds
returns-in-Ok-clause-finds c other =
    let fit : SFits w32 c.args.id = c.ranges.id in
    let h = simp to_z-of_z at c.in-Ok.ensures in
    ap (key_for other) (c.remove.ensures.items ∙ ap (λ (t : Table). remove t.pairs c.in-Ok.at) c.self.view_is)
    ∙ found_removed c.args.self.now.pairs (subst (λ l. IsRising l) (ap (λ (t : Table). t.pairs) c.self.view_is) c.self.invariant) c.args.id c.in-Ok.at h.found other

pub returns-in-Ok-clause-len : goal.returns-in-Ok-clause-len
returns-in-Ok-clause-len c =
    let fit : SFits w32 c.args.id = c.ranges.id in
    let h = simp to_z-of_z at c.in-Ok.ensures in
    removed_long c.args.self.now.pairs (subst (λ l. IsRising l) (ap (λ (t : Table). t.pairs) c.self.view_is) c.self.invariant) c.args.id c.in-Ok.at h.found c.remove.new.self.items
    (c.remove.ensures.items ∙ ap (λ (t : Table). remove t.pairs c.in-Ok.at) c.self.view_is)

pub returns-in-Err-clause-finds : goal.returns-in-Err-clause-finds
returns-in-Err-clause-finds c other =
    let fit : SFits w32 c.args.id = c.ranges.id in
    let h = simp to_z-of_z at c.in-Err.ensures in
    kept_out c.args.self.now.pairs c.args.id c.in-Err.field-0 h.absent other

pub returns-in-Err-clause-len : goal.returns-in-Err-clause-len
returns-in-Err-clause-len c =
    let fit : SFits w32 c.args.id = c.ranges.id in
    let h = simp to_z-of_z at c.in-Err.ensures in
    kept_long c.args.self.now.pairs c.args.id c.in-Err.field-0 h.absent
