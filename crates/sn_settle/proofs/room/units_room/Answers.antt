use Rattle.std.proofs.Common.{◌≤◌, ◌<◌, ap, arith, length}
use Rattle.sn_world.specs.SettleWords.{units_room}
use Rattle.sn_settle.proofs.Reading.{drop_next, drop_past}
use Rattle.sn_settle.proofs.room.units_room.Goals as goal

pub loop-unit-init : goal.loop-unit-init
loop-unit-init c = record { room = omega arith; few = omega arith }

pub overflow_add-room : goal.overflow_add-room
overflow_add-room c = omega (arith, c.loop-unit.invariant.few, c.unit_room-room.ensures.few)

pub loop-unit-preserved : goal.loop-unit-preserved
loop-unit-preserved c =
    let lt : c.loop-unit.unit-index < length c.args.units.now = omega arith in
    record {
      room = omega (arith, c.loop-unit.invariant.room, c.unit_room-room.ensures.room, ap units_room (drop_next c.args.units.now c.loop-unit.unit-index c.unit-item.result lt c.unit-item.is));
      few = omega (arith, c.loop-unit.invariant.few, c.unit_room-room.ensures.few);
    }

pub returns-clause-room : goal.returns-clause-room
returns-clause-room c =
    let past : length c.args.units.now ≤ c.loop-unit.unit-index = omega arith in
    omega (arith, c.loop-unit.invariant.room, ap units_room (drop_past c.args.units.now c.loop-unit.unit-index past))
