use Rattle.std.proofs.Common.{◌∙◌, ap, w32}
use mir.Val.{SFits}
use Rattle.std.proofs.lemmas.Int.{to_z-of_z}
use Rattle.sn_tree.specs.Trees.{ids, next_after}
use Rattle.sn_tree.specs.Ordered.{Ordered}
use Rattle.sn_tree.proofs.order.Order.next_of.Goals as goal

pub returns : goal.returns
returns c = (let fit : SFits w32 c.args.id = c.ranges.id in simp to_z-of_z at c.next_of.ensures) ∙ ap (λ (o : Ordered). next_after c.args.id (ids o.now.attached)) c.self.view_is
