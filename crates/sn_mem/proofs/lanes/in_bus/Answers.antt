use Rattle.std.proofs.Common.{arith}
use Rattle.sn_mem.proofs.LaneWords.{in_extent}
use Rattle.sn_mem.proofs.lanes.in_bus.Goals as goal

pub overflow_sub-offset : goal.overflow_sub-offset
overflow_sub-offset c = omega (arith, (in_extent c.args.moved.now.lane c.args.at c.requires.covers).0)

pub overflow_add-result : goal.overflow_add-result
overflow_add-result c = let p = in_extent c.args.moved.now.lane c.args.at c.requires.covers in omega (arith, p.0, p.1, c.requires.room.lane, c.requires.room.bus_end)
