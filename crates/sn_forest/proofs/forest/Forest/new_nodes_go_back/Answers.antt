use Rattle.sn_forest.proofs.Returning.{insert_back}
use Rattle.sn_forest.proofs.forest.Forest.new_nodes_go_back.Goals as goal

pub returns : goal.returns
returns g c = insert_back c.args.key c.args.place c.args.value.now c.args.self.now c.keys_differ.ensures c.requires.fresh c.requires.place
