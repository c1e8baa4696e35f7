-- What is asked of a definition.
use Rattle.std.specs.Prelude.{ℕ, List, Bool, false, ◌==◌, Option, position, zip}
use Rattle.std.specs.List.{list_any}
use Rattle.std.specs.Str.{bytes_eq}
use Rattle.sn_def.specs.declared.table.Mark.{Mark}
use Rattle.sn_def.specs.declared.table.Mark.TheVariants.{Index}
use Rattle.sn_def.specs.declared.unit.Input.{Input}
use Rattle.sn_def.specs.declared.unit.Input.TheVariants.{Control}
use Rattle.sn_def.specs.declared.unit.Unit.{Unit as UnitLine}
use Rattle.sn_def.specs.Units.{row_of}
use Rattle.sn_def.specs.Definition.{Definition}

-- an index input that is this control
abbrev pub is_index_input : ℕ → Mark → Input → Bool
is_index_input control Index (Control k) = k == control
is_index_input control _ _ = false

-- a unit with an index input that is this control; the signals that may follow a unit's inputs are no index inputs
unfoldable pub has_index : ℕ → UnitLine → Bool
has_index control u = list_any (λ p. is_index_input control p.0 p.1) (zip (row_of u.kind).inputs u.inputs)

-- an index control: some unit has it as an index input
abbrev pub is_index : Definition → ℕ → Bool
is_index d control = list_any (has_index control) d.units

-- the number of the control of this name
abbrev pub control_named : Definition → List ℕ → Option ℕ
control_named d name = position (λ c. bytes_eq c.name name) d.controls
