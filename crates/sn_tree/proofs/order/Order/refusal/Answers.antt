use Rattle.std.proofs.Common.{◌∙◌, ap, sym, w32}
use mir.Val.{SFits}
use Rattle.std.proofs.lemmas.Int.{to_z-of_z}
use Rattle.sn_tree.specs.Faults.{insert_fault}
use Rattle.sn_tree.specs.Ordered.{Ordered}
use Rattle.sn_tree.proofs.order.Order.refusal.Goals as goal

pub returns-in-Ok : goal.returns-in-Ok
returns-in-Ok c =
    let fit : SFits w32 c.args.id = c.ranges.id in
    let h = simp to_z-of_z at c.in-Ok.ensures in
    sym h.0 ∙ ap (λ (o : Ordered). insert_fault c.args.id c.args.spot.action c.args.spot.target o.now.attached) c.self.view_is

pub returns-in-Err : goal.returns-in-Err
returns-in-Err c =
    let fit : SFits w32 c.args.id = c.ranges.id in
    let h = simp to_z-of_z at c.in-Err.ensures in
    sym h ∙ ap (λ (o : Ordered). insert_fault c.args.id c.args.spot.action c.args.spot.target o.now.attached) c.self.view_is
