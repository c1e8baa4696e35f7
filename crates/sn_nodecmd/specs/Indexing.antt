-- Index controls among the controls of mappings.
use Rattle.std.specs.Prelude.{ℕ, ℤ, Bool, false, is_some, List, zip, slice_index_or, Option, None}
use Rattle.std.specs.List.{list_any}
use Rattle.sn_def.specs.declared.table.Mark.{Mark}
use Rattle.sn_def.specs.declared.table.Mark.TheVariants.{Index}
use Rattle.sn_def.specs.declared.unit.Input.{Input}
use Rattle.sn_def.specs.declared.unit.Input.TheVariants.{Control}
use Rattle.sn_def.specs.declared.unit.Unit.{Unit as UnitLine}
use Rattle.sn_def.specs.Definition.{Definition}
use Rattle.sn_def.specs.Defs.{definition_of}
use Rattle.sn_def.specs.Units.{row_of}
use Rattle.sn_world.specs.declared.stage.Held.{Held}
use Rattle.sn_world.specs.declared.stage.Held.TheVariants as held
use Rattle.sn_world.specs.NewSynth.{control_of}
use Rattle.sn_world.specs.Mappings.{Mapping, is_index_of}

-- Any of these mappings is of an index control of a definition.
abbrev pub definition_takes : List Mapping → Definition → Bool
definition_takes ms d = list_any (λ m. is_index_of d (control_of d m.control)) ms

abbrev pub held_takes : List Mapping → Held → Bool
held_takes ms held.Group = false
held_takes ms (held.Synth def controls state) = definition_takes ms (definition_of def.value)

-- ---- by the last numbers of controls

-- A control is given a number.
abbrev pub reaches : List (Option ℤ) → ℕ → Bool
reaches last k = is_some (slice_index_or last k None)

-- An input is an index control that is given a number.
abbrev pub input_taken : List (Option ℤ) → Mark → Input → Bool
input_taken last Index (Control k) = reaches last k
input_taken last _ _ = false

abbrev pub unit_takes : List (Option ℤ) → UnitLine → Bool
unit_takes last u = list_any (λ p. input_taken last p.0 p.1) (zip (row_of u.kind).inputs u.inputs)
