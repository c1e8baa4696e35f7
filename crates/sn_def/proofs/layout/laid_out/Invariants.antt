-- What is laid out so far, and what is left of the units.
use Rattle.std.proofs.Common.{◌≡◌, ◌+◌, ◌++◌, drop}
use Rattle.sn_def.specs.StateWords.{units_words}
use Rattle.sn_def.specs.Layout.{laid_out}
use Rattle.sn_def.proofs.layout.laid_out.Given as goal

abbrev pub invariant-loop-unit : goal.invariant-loop-unit
invariant-loop-unit l = record {
  rows : l.rows.items ++ laid_out l.rate l.first (drop l.unit-index l.units) ≡ laid_out l.rate 0 l.units;
  first : l.first + units_words l.rate (drop l.unit-index l.units) ≡ units_words l.rate l.units;
}
