use Rattle.std.proofs.Common.{◌∙◌, ap, pos}
use Rattle.sn_tree.specs.Trees.{running_labels}
use Rattle.sn_tree.proofs.Gathering.{whole_shown}
use Rattle.sn_tree.proofs.Listing.{members_left, walk_shown}
use Rattle.sn_tree.proofs.tree.Tree.walk.Goals as goal

pub invariant_of-result : goal.invariant_of-result
invariant_of-result g c = members_left c.self.inside.root c.self.inside.payloads.slots c.self.inside.order.now (pos 0) c.cursor.result c.cursor.ensures.nodes c.self.invariant.now

pub returns : goal.returns
returns g c =
    walk_shown c.self.inside.root c.self.inside.payloads.slots c.self.inside.order.now (pos 0) c.cursor.result c.cursor.ensures.nodes c.self.inside.order.saved c.args.self.now c.self.view_is
    ∙ ap running_labels (whole_shown c.self.inside.root c.self.inside.payloads.slots c.self.inside.order.now c.self.inside.order.saved c.args.self.now c.self.view_is c.self.invariant.rooted)
