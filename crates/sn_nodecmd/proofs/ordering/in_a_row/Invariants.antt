use Rattle.std.proofs.Common.{◌≡◌, ◌++◌, drop}
use Rattle.sn_world.specs.NodeOrder.{in_a_row}
use Rattle.sn_nodecmd.proofs.ordering.in_a_row.Given as goal

abbrev pub invariant-loop-node : goal.invariant-loop-node
invariant-loop-node l = l.moves.items ++ in_a_row l.spot.action l.spot.target (drop l.node-index l.nodes) ≡ in_a_row l.fn.spot.action l.fn.spot.target l.nodes
