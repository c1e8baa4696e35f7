use Rattle.std.proofs.Common.{◌∙◌, ap, sym, w32}
use mir.Val.{SFits}
use Rattle.std.proofs.lemmas.Int.{to_z-of_z}
use Rattle.sn_tree.specs.Faults.{replace_fault}
use Rattle.sn_tree.specs.Ordered.{Ordered}
use Rattle.sn_tree.proofs.order.Order.refusal_to_replace.Goals as goal

pub returns-in-Ok : goal.returns-in-Ok
returns-in-Ok c =
    let fit : SFits w32 c.args.id = c.ranges.id in
    let reach : SFits w32 c.args.target = c.ranges.target in
    let h = simp to_z-of_z at c.in-Ok.ensures in
    sym h.0 ∙ ap (λ (o : Ordered). replace_fault c.args.id c.args.target o.now.attached) c.self.view_is

pub returns-in-Err : goal.returns-in-Err
returns-in-Err c =
    let fit : SFits w32 c.args.id = c.ranges.id in
    let reach : SFits w32 c.args.target = c.ranges.target in
    let h = simp to_z-of_z at c.in-Err.ensures in
    sym h ∙ ap (λ (o : Ordered). replace_fault c.args.id c.args.target o.now.attached) c.self.view_is
