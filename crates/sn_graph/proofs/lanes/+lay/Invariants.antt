use Rattle.std.proofs.Common.{◌+◌, ◌*◌}
use Rattle.sn_graph.specs.Inputs.{nodes_of}
use Rattle.sn_graph.proofs.Shapes.{weight}
use Rattle.sn_graph.proofs.lanes.+lay.Given as goal

abbrev pub decreases-lay : goal.decreases-lay
decreases-lay l = 2 * weight (nodes_of l.nodes.now)

abbrev pub decreases-lay_group : goal.decreases-lay_group
decreases-lay_group l = 2 * weight (nodes_of l.inner.now) + 1
