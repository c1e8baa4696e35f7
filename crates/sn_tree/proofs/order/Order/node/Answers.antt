use Rattle.std.proofs.Common.{◌∙◌, ap, w32}
use mir.Val.{SFits}
use Rattle.std.proofs.lemmas.Int.{to_z-of_z}
use Rattle.sn_tree.specs.Trees.{view_of}
use Rattle.sn_tree.specs.Ordered.{Ordered}
use Rattle.sn_tree.proofs.order.Order.node.Goals as goal

pub returns : goal.returns
returns c = (let fit : SFits w32 c.args.id = c.ranges.id in simp to_z-of_z at c.node.ensures) ∙ ap (λ (o : Ordered). view_of c.args.id o.now.attached) c.self.view_is
