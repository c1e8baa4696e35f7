-- The words of state of a definition.
use Rattle.std.specs.Prelude.{◌+◌, ℕ, ℤ, pos, max, Bool, true, false, List, [], ◌∷◌, Option, Some, None, position, slice_get}
use Rattle.sn_fixed.specs.Fixed.{frames_of}
use Rattle.sn_def.specs.declared.table.Mark.{Mark}
use Rattle.sn_def.specs.declared.table.Mark.TheVariants.{Longest}
use Rattle.sn_def.specs.declared.table.StateSize.{StateSize}
use Rattle.sn_def.specs.declared.table.StateSize.TheVariants.{Fixed, Delay, Comb, DampedComb}
use Rattle.sn_def.specs.declared.unit.Input.{Input}
use Rattle.sn_def.specs.declared.unit.Input.TheVariants.{Literal}
use Rattle.sn_def.specs.declared.unit.Unit.{Unit as UnitLine}
use Rattle.sn_def.specs.Units.{row_of}
use Rattle.sn_def.specs.Definition.{Definition}

abbrev pub is_longest : Mark → Bool
is_longest Longest = true
is_longest _ = false

-- the value of an input that is a literal
abbrev pub literal_value : Option Input → ℤ
literal_value (Some (Literal v)) = v
literal_value _ = pos 0

abbrev pub input_there : List Input → Option ℕ → Option Input
input_there inputs (Some i) = slice_get inputs i
input_there inputs None = None

-- the milliseconds of a unit's longest delay
abbrev pub longest : List Mark → List Input → ℤ
longest marks inputs = literal_value (input_there inputs (position is_longest marks))

-- with a delay of so many frames
abbrev pub words_of : StateSize → ℕ → ℕ
words_of (Fixed n) frames = n
words_of Delay frames = frames + 2
words_of Comb frames = max 1 frames + 2
words_of DampedComb frames = max 1 frames + 3

-- the words of a unit at a rate of so many frames a second
unfoldable pub unit_words : ℕ → UnitLine → ℕ
unit_words rate u = words_of (row_of u.kind).words (frames_of (longest (row_of u.kind).inputs u.inputs) rate)

-- the words of units, one unit's after the other's
abbrev pub units_words : ℕ → List UnitLine → ℕ
units_words rate [] = 0
units_words rate (u ∷ us) = unit_words rate u + units_words rate us

abbrev pub state_words : ℕ → Definition → ℕ
state_words rate d = units_words rate d.units
