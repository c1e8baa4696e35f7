use Rattle.sn_graph.proofs.Beside.{nodes_agree}
use Rattle.sn_graph.proofs.laws.nodes_clash_as_footprints.Goals as goal

pub returns : goal.returns
returns c = nodes_agree c.args.stage.now
