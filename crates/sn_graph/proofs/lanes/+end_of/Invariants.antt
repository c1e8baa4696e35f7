use Rattle.sn_graph.specs.Inputs.{nodes_of}
use Rattle.sn_graph.proofs.Shapes.{weight}
use Rattle.sn_graph.proofs.lanes.+end_of.Given as goal

abbrev pub decreases-end_of : goal.decreases-end_of
decreases-end_of l = weight (nodes_of l.nodes.now)
