use Rattle.sn_tree.proofs.Gathering.{whole_shown}
use Rattle.sn_tree.proofs.tree.Tree.root_holds_all.Goals as goal

pub returns : goal.returns
returns g c = whole_shown c.self.inside.root c.self.inside.payloads.slots c.self.inside.order.now c.self.inside.order.saved c.args.self.now c.self.view_is c.self.invariant.rooted
