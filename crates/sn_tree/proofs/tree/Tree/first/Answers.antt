use Rattle.std.proofs.Common.{◌∙◌, ap, w32}
use mir.Val.{SFits}
use Rattle.std.proofs.lemmas.Int.{to_z-of_z}
use Rattle.sn_tree.specs.Trees.{first_of}
use Rattle.sn_tree.specs.Keyed.{labels}
use Rattle.sn_tree.proofs.NextLaws.{children_is}
use Rattle.sn_tree.proofs.Showing.{first_shown}
use Rattle.sn_tree.proofs.tree.Tree.first.Goals as goal

pub returns : goal.returns
returns g c =
    let fit : SFits w32 c.args.group = c.ranges.group in
    let nodes = simp to_z-of_z at c.cursor.ensures.nodes in
    c.first_id.ensures
    ∙ (ap (λ t. first_of (labels t)) c.below.ensures
    ∙ (ap first_of (children_is c.cursor.result c.args.group c.self.inside.order.now.attached nodes) ∙ first_shown c.self.inside.root c.self.inside.payloads.slots c.self.inside.order.now c.self.inside.order.saved c.args.self.now c.self.view_is c.args.group))
