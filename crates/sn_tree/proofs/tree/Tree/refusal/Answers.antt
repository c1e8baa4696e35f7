use Rattle.std.proofs.Common.{◌∙◌, w32}
use mir.Val.{SFits}
use Rattle.std.proofs.lemmas.Int.{to_z-of_z}
use Rattle.sn_tree.proofs.Showing.{insert_fault_shown}
use Rattle.sn_tree.proofs.tree.Tree.refusal.Goals as goal

pub returns : goal.returns
returns g c = (let fit : SFits w32 c.args.id = c.ranges.id in simp to_z-of_z at c.refusal.ensures) ∙ insert_fault_shown c.self.inside.root c.self.inside.payloads.slots c.self.inside.order.now c.self.inside.order.saved c.args.self.now c.self.view_is c.args.id c.args.spot.action c.args.spot.target
