use Rattle.sn_tree.proofs.Gathering.{group_shown}
use Rattle.sn_tree.proofs.tree.Tree.root_is_a_group.Goals as goal

pub returns : goal.returns
returns g c = group_shown c.self.inside.root c.self.inside.payloads.slots c.self.inside.order.now c.self.inside.order.saved c.args.self.now c.self.view_is c.self.invariant.rooted
