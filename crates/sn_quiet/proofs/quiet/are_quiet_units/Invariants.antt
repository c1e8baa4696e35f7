-- Whether the units so far and those that are left are quiet.
use Rattle.std.proofs.Common.{◌≡◌, ◌&&◌, drop}
use Rattle.std.specs.List.{list_all}
use Rattle.sn_quiet.specs.Quiet.{is_quiet_unit}
use Rattle.sn_quiet.proofs.quiet.are_quiet_units.Given as goal

abbrev pub invariant-loop-unit : goal.invariant-loop-unit
invariant-loop-unit l = (l.quiet && list_all is_quiet_unit (drop l.unit-index l.units)) ≡ list_all is_quiet_unit l.units
