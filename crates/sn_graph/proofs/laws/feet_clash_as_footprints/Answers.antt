use Rattle.sn_graph.proofs.Resources.{clash_agrees}
use Rattle.sn_graph.proofs.laws.feet_clash_as_footprints.Goals as goal

pub returns : goal.returns
returns c = clash_agrees
