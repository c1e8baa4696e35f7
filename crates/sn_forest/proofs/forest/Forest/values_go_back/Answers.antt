use Rattle.sn_forest.proofs.Returning.{value_back}
use Rattle.sn_forest.proofs.forest.Forest.values_go_back.Goals as goal

pub returns : goal.returns
returns g c = value_back c.args.key c.args.old.now c.args.value.now c.args.self.now c.keys_differ.ensures c.requires.node c.requires.held
