-- What has been read of a definition, as the program holds it.
use Rattle.std.specs.Prelude.{◌≡◌, ◌≤◌, ◌==◌, ℕ, Bool, false, List, map, length}
use Rattle.std.specs.List.{list_any}
use Rattle.std.specs.BTreeMap.{BTreeMap}
use Rattle.std.specs.Borrow.{Bor}
use Rattle.sn_ports.specs.Limits.{most_wires, most_units}
use Rattle.sn_ports.specs.Octets.{Octets}
use Rattle.sn_def.specs.declared.arrays.Run.{Run}
use Rattle.sn_def.specs.declared.definition.Param.{Param}
use Rattle.sn_def.specs.declared.unit.Input.{Input}
use Rattle.sn_def.specs.declared.unit.Unit.{Unit as UnitLine}
use Rattle.sn_def.specs.Definition.{Definition, named, place_of, control_names, or_else, as_control}
use Rattle.sn_def.specs.Known.{value_at}
use Rattle.sn_def.specs.Params.{parameter_of}

abbrev pub draft_of : Octets → List Param → List Run → List UnitLine → List Octets → Definition
draft_of name controls arrays units wires = record { name = name.bytes; controls = map parameter_of controls; arrays = arrays; units = units; wires = map (λ n. n.bytes) wires }

-- whether a name has a `.` (46), as those of elements have
abbrev pub has_point : List ℕ → Bool
has_point name = list_any (λ b. b == 46) name

-- The map knows what the definition names, except elements of arrays, which stand among its controls. No list is longer
-- than it may be.
pub record IsDraft (d : Definition) (m : BTreeMap (Bor (List ℕ)) Input) : Type 0 where
  pub plain : (q : List ℕ) → has_point q ≡ false → value_at m q ≡ named d q
  pub known : (q : List ℕ) → or_else (as_control (place_of q (control_names d))) (value_at m q) ≡ named d q
  pub controls : length d.controls ≤ most_wires
  pub units : length d.units ≤ most_units
  pub wires : length d.wires ≤ most_wires
