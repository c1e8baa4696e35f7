use Rattle.std.proofs.Common.{◌≡◌, subst, w32}
use Rattle.std.specs.Prelude.{IfOk}
use mir.Val.{SFits}
use Rattle.std.proofs.lemmas.Int.{to_z-of_z}
use Rattle.sn_tree.proofs.Showing.{views_shown}
use Rattle.sn_tree.proofs.tree.Tree.views.Goals as goal

pub returns : goal.returns
returns g c =
    subst (λ l. IfOk c.views.result (λ views. views.items ≡ l)) (views_shown c.self.inside.root c.self.inside.payloads.slots c.self.inside.order.now c.self.inside.order.saved c.args.self.now c.self.view_is c.args.id)
    (let fit : SFits w32 c.args.id = c.ranges.id in simp to_z-of_z at c.views.ensures)
