-- Those of the units so far, and those of the units that are left.
use Rattle.std.proofs.Common.{◌≡◌, ◌≤◌, ◌+◌, ◌*◌, drop}
use Rattle.sn_world.specs.SettleWords.{units_room}
use Rattle.sn_settle.proofs.room.units_room.Given as goal

abbrev pub invariant-loop-unit : goal.invariant-loop-unit
invariant-loop-unit l = record {
  room : l.room + units_room (drop l.unit-index l.units) ≡ units_room l.units;
  few : l.room ≤ 2 * l.unit-index;
}
