use Rattle.std.proofs.Common.{◌∙◌, ap, w32}
use mir.Val.{SFits}
use Rattle.std.proofs.lemmas.Int.{to_z-of_z}
use Rattle.sn_tree.specs.Trees.{subtree}
use Rattle.sn_tree.specs.Ordered.{Ordered}
use Rattle.sn_tree.proofs.OrderLaws.{few_in}
use Rattle.sn_tree.proofs.order.Order.cursor.Goals as goal

pub returns-clause-nodes : goal.returns-clause-nodes
returns-clause-nodes c = (let fit : SFits w32 c.args.id = c.ranges.id in simp to_z-of_z at c.cursor.ensures) ∙ ap (λ (o : Ordered). subtree c.args.id o.now.attached) c.self.view_is

pub returns-clause-few : goal.returns-clause-few
returns-clause-few c =
    let fit : SFits w32 c.args.id = c.ranges.id in
    let nodes = simp to_z-of_z at c.cursor.ensures in
    few_in c.self.inside.store c.args.id c.cursor.result nodes c.self.invariant.1
