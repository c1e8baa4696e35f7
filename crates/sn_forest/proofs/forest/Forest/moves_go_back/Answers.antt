use Rattle.sn_forest.proofs.Returning.{moves_back}
use Rattle.sn_forest.proofs.forest.Forest.moves_go_back.Goals as goal

pub returns : goal.returns
returns g c = moves_back c.args.key c.args.place c.args.self.now c.keys_differ.ensures c.requires.node c.requires.inner c.requires.place
