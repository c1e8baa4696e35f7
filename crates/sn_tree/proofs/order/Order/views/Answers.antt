use Rattle.std.proofs.Common.{◌≡◌, ap, subst, w32}
use Rattle.std.specs.Prelude.{IfOk}
use mir.Val.{SFits}
use Rattle.std.proofs.lemmas.Int.{to_z-of_z}
use Rattle.sn_tree.specs.Views.{views_below}
use Rattle.sn_tree.specs.Ordered.{Ordered}
use Rattle.sn_tree.proofs.order.Order.views.Goals as goal

pub returns : goal.returns
returns c =
    subst (λ l. IfOk c.views.result (λ views. views.items ≡ l)) (ap (λ (o : Ordered). views_below c.args.id o.now.attached) c.self.view_is)
    (let fit : SFits w32 c.args.id = c.ranges.id in simp to_z-of_z at c.views.ensures)
