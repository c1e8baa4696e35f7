use Rattle.std.proofs.Common.{◌∙◌, w32}
use mir.Val.{SFits}
use Rattle.std.proofs.lemmas.Int.{to_z-of_z}
use Rattle.sn_tree.proofs.Showing.{replace_fault_shown}
use Rattle.sn_tree.proofs.tree.Tree.refusal_to_replace.Goals as goal

pub returns : goal.returns
returns g c =
    let fit : SFits w32 c.args.id = c.ranges.id in
    let reach : SFits w32 c.args.target = c.ranges.target in
    let h = simp to_z-of_z at c.refusal_to_replace.ensures in
    h ∙ replace_fault_shown c.self.inside.root c.self.inside.payloads.slots c.self.inside.order.now c.self.inside.order.saved c.args.self.now c.self.view_is c.args.id c.args.target
