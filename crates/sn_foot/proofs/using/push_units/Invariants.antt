-- What the units that are left make of the uses is what all of them made of the first.
use Rattle.std.proofs.Common.{◌≡◌, drop}
use Rattle.sn_foot.specs.Putting.{put_units}
use Rattle.sn_foot.proofs.using.push_units.Given as goal

abbrev pub invariant-loop-unit : goal.invariant-loop-unit
invariant-loop-unit l = put_units l.controls (drop l.unit-index l.units) l.uses.items ≡ put_units l.controls l.units l.fn.uses.items
