use Rattle.std.proofs.Common.{ap, arith, length}
use Rattle.sn_settle.proofs.Few.{few_running}
use Rattle.sn_settle.proofs.room.settling_room.Goals as goal

pub overflow_add-room : goal.overflow_add-room
overflow_add-room c = omega (
  arith,
  c.loop-visit.invariant.few,
  c.held_room-room.ensures.few,
  c.len-nodes.ensures.value,
  c.len-nodes.ensures.bound,
  few_running c.args.stage.now.tree.attached,
  ap length c.in-Some.ensures.steps,
)

pub returns-clause-few : goal.returns-clause-few
returns-clause-few c = omega (arith, c.loop-visit.invariant.few, c.len-nodes.ensures.value, c.len-nodes.ensures.bound, few_running c.args.stage.now.tree.attached)
