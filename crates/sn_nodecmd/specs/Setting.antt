-- Controls that are set one after the other.
use Rattle.std.specs.Prelude.{ℕ, List, [], ◌∷◌, Option, Some, None}
use Rattle.sn_osc.specs.Shape.{Argument}
use Rattle.sn_def.specs.declared.control.Control.{Control}
use Rattle.sn_def.specs.Definition.{Definition}
use Rattle.sn_world.specs.NewSynth.{ControlName, ControlValue, control_of, control_value, with_value}

abbrev pub number_of : Definition → Option ControlName → Option ℕ
number_of d None = None
number_of d (Some c) = control_of d c

abbrev pub with_pair : Definition → Option ControlValue → List Control → List Control
with_pair d None controls = controls
with_pair d (Some v) controls = with_value (control_of d v.control) v.value controls

-- by arguments, which are controls and values, in turn
abbrev pub set_pairs : Definition → List Argument → List Control → List Control
set_pairs d [] controls = controls
set_pairs d (x ∷ []) controls = controls
set_pairs d (x ∷ y ∷ rest) controls = set_pairs d rest (with_pair d (control_value x y) controls)
