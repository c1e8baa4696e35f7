use Rattle.sn_graph.specs.Inputs.{nodes_of}
use Rattle.sn_graph.proofs.Shapes.{weight}
use Rattle.sn_graph.proofs.lanes.+give.Given as goal

abbrev pub decreases-give : goal.decreases-give
decreases-give l = weight (nodes_of l.nodes.now)
