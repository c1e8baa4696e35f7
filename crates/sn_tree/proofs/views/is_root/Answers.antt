use Rattle.sn_tree.proofs.ViewLaws.{root_is}
use Rattle.sn_tree.proofs.views.is_root.Goals as goal

pub returns : goal.returns
returns c = root_is c.args.forest.now c.root.result c.args.key c.root.ensures
