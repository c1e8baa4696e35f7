-- The one text that is printed of a definition.
use Rattle.std.specs.Prelude.{◌+◌, ◌-◌, ℕ, Bool, true, false, List, [], ◌∷◌, ◌++◌, length, nat_le, map, take, drop, unwrap_or, slice_get, if◌then◌else◌}
use Rattle.std.specs.Fmt.{signed_decimal}
use Rattle.sn_def.specs.declared.arrays.Run.{Run}
use Rattle.sn_def.specs.declared.unit.Input.{Input}
use Rattle.sn_def.specs.declared.unit.Input.TheVariants.{Literal, Control, Wire}
use Rattle.sn_def.specs.declared.unit.Unit.{Unit as UnitLine}
use Rattle.sn_def.specs.declared.version.Version.{Version}
use Rattle.sn_def.specs.declared.version.Version.TheVariants as versions
use Rattle.sn_def.specs.Units.{row_of}
use Rattle.sn_def.specs.Definition.{Definition, Parameter, control_names}
use Rattle.sn_def.specs.Reading.{UnitParts}
use Rattle.sn_def.specs.Grammar.{ControlLine, text_of}

-- the lower version that has the arrays and as many controls
abbrev pub version_for : List Run → ℕ → Version
version_for [] controls = if nat_le controls 128 then versions.One else versions.Two
version_for (r ∷ rs) controls = versions.Two

-- every value as a whole number
abbrev pub values_printed : List Parameter → List (List ℕ)
values_printed ps = map (λ p. signed_decimal p.default) ps

abbrev pub line_printed : Bool → List ℕ → List Parameter → ControlLine
line_printed is_array name ps = record { is_array = is_array; name = name; literals = values_printed ps; defaults = map (λ p. p.default) ps }

abbrev pub control_printed : Parameter → ControlLine
control_printed p = line_printed false p.name (p ∷ [])

-- an array has the name of its first control
abbrev pub first_name : List Parameter → List ℕ
first_name [] = []
first_name (p ∷ ps) = p.name

abbrev pub array_printed : List Parameter → ControlLine
array_printed ps = line_printed true (first_name ps) ps

-- the lines of controls from a number on, if these are their arrays
abbrev pub controls_printed : ℕ → List Parameter → List Run → List ControlLine
controls_printed from ps [] = map control_printed ps
controls_printed from ps (r ∷ rs) =
    map control_printed (take (r.first - from) ps) ++ array_printed (take r.len (drop (r.first - from) ps)) ∷ controls_printed (r.first + r.len) (drop (r.first - from + r.len) ps) rs

-- a value, or the name of the control or wire
abbrev pub input_printed : Definition → Input → List ℕ
input_printed d (Literal v) = signed_decimal v
input_printed d (Control k) = unwrap_or (slice_get (control_names d) k) []
input_printed d (Wire k) = unwrap_or (slice_get d.wires k) []

abbrev pub unit_printed : Definition → List (List ℕ) → UnitLine → UnitParts
unit_printed d outputs u = record { outputs = outputs; unit = (row_of u.kind).name; inputs = map (input_printed d) u.inputs }

-- unit lines, whose outputs are these wires
abbrev pub units_printed : Definition → List (List ℕ) → List UnitLine → List UnitParts
units_printed d wires [] = []
units_printed d wires (u ∷ us) = unit_printed d (take u.outputs wires) u ∷ units_printed d (drop u.outputs wires) us

unfoldable pub print_of : Definition → List ℕ
print_of d = text_of (version_for d.arrays (length d.controls)) d.name (controls_printed 0 d.controls d.arrays) (units_printed d d.wires d.units)
