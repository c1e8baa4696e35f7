-- Where the units of a definition have their words of state: one unit's after the other's.
use Rattle.std.specs.Prelude.{◌+◌, ℕ, List, [], ◌∷◌, Option, Some, None, take, slice_get}
use Rattle.sn_def.specs.declared.unit.Unit.{Unit as UnitLine}
use Rattle.sn_def.specs.declared.layout.UnitWords.{UnitWords}
use Rattle.sn_def.specs.StateWords.{unit_words, units_words}

abbrev pub words_from : ℕ → ℕ → UnitWords
words_from first count = record { first = first; count = count }

-- those of units whose first one's begin at a place
abbrev pub laid_out : ℕ → ℕ → List UnitLine → List UnitWords
laid_out rate first [] = []
laid_out rate first (u ∷ us) = words_from first (unit_words rate u) ∷ laid_out rate (first + unit_words rate u) us

abbrev pub words_if_there : ℕ → Option UnitLine → ℕ
words_if_there rate None = 0
words_if_there rate (Some u) = unit_words rate u

-- those of the unit of a number: they begin after those of the units before it
abbrev pub words_at : ℕ → List UnitLine → ℕ → UnitWords
words_at rate us number = words_from (units_words rate (take number us)) (words_if_there rate (slice_get us number))
