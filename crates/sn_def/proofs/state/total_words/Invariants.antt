use Rattle.std.proofs.Common.{◌≡◌, ◌+◌, drop}
use Rattle.sn_def.specs.StateWords.{units_words}
use Rattle.sn_def.proofs.state.total_words.Given as goal

abbrev pub invariant-loop-unit : goal.invariant-loop-unit
invariant-loop-unit l = l.total + units_words l.rate (drop l.unit-index l.units) ≡ units_words l.rate l.units
