use Rattle.std.proofs.Common.{◌≡◌, ◌++◌, drop}
use Rattle.std.specs.Prelude.{map}
use Rattle.sn_buscmd.proofs.fills.fills_of.Given as goal

abbrev pub invariant-loop-repetition : goal.invariant-loop-repetition
invariant-loop-repetition g l = l.fills.items ++ map g.R.Filling.fill (drop l.repetition-index l.all) ≡ map g.R.Filling.fill l.all
