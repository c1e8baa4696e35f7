use Rattle.sn_tree.proofs.Gathering.{root_shown}
use Rattle.sn_tree.proofs.tree.Tree.root_is_on_top.Goals as goal

pub returns : goal.returns
returns g c = root_shown c.self.inside.root c.self.inside.payloads.slots c.self.inside.order.now c.self.inside.order.saved c.args.self.now c.self.view_is c.args.id c.self.invariant.rooted c.self.invariant.distinct
