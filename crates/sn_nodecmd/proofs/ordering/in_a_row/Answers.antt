use Rattle.std.proofs.Common.{◌≡◌, ◌∙◌, ap, sym, length, arith}
use Rattle.sn_world.specs.NodeOrder.{in_a_row}
use Rattle.sn_nodecmd.proofs.OrderLemmas.{row_next, row_whole, row_length}
use Rattle.sn_nodecmd.proofs.ordering.in_a_row.Goals as goal

pub loop-node-preserved : goal.loop-node-preserved
loop-node-preserved c =
    row_next c.loop-node.moves.items _ c.loop-node.spot _ c.args.nodes.now c.loop-node.node-index _ _ c.loop-node-test.true c.move_to.ensures c.in_ok-push.ensures.items c.after-spot.ensures
    ∙ c.loop-node.invariant

pub returns-clause-row : goal.returns-clause-row
returns-clause-row c = sym (row_whole c.loop-node.moves.items c.loop-node.spot.action c.loop-node.spot.target c.args.nodes.now c.loop-node.node-index c.loop-node-test.false) ∙ c.loop-node.invariant

pub returns-clause-few : goal.returns-clause-few
returns-clause-few c =
    let row : c.loop-node.moves.items ≡ in_a_row c.args.spot.action c.args.spot.target c.args.nodes.now = sym (row_whole c.loop-node.moves.items c.loop-node.spot.action c.loop-node.spot.target c.args.nodes.now c.loop-node.node-index c.loop-node-test.false) ∙ c.loop-node.invariant in
    omega (arith, ap length row, row_length c.args.spot.action c.args.spot.target c.args.nodes.now)
