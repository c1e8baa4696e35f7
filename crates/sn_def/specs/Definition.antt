-- What a definition is, without where it lies in memory.
use Rattle.std.specs.Prelude.{◌+◌, ◌==◌, ℕ, ℤ, Option, Some, None, List, [], ◌∷◌, ◌++◌, length, map, if◌then◌else◌}
use Rattle.std.specs.Fmt.{decimal}
use Rattle.std.specs.Str.{bytes_eq}
use Rattle.sn_def.specs.declared.arrays.Run.{Run}
use Rattle.sn_def.specs.declared.kind.Kind.{Kind}
use Rattle.sn_def.specs.declared.unit.Input.{Input}
use Rattle.sn_def.specs.declared.unit.Input.TheVariants.{Control, Wire}
use Rattle.sn_def.specs.declared.unit.Unit.{Unit as UnitLine}

-- a control: its name, and its first value
pub record Parameter : Type 0 where
  pub name : List ℕ
  pub default : ℤ

-- controls, units and wires are numbered from 0 in their order; an array is a run of controls; the outputs of a unit
-- are the next wires
pub record Definition : Type 0 where
  pub name : List ℕ
  pub controls : List Parameter
  pub arrays : List Run
  pub units : List UnitLine
  pub wires : List (List ℕ)

abbrev pub whole : List ℕ → List Parameter → List Run → List UnitLine → List (List ℕ) → Definition
whole name controls arrays units wires = record { name = name; controls = controls; arrays = arrays; units = units; wires = wires }

-- a definition with no lines but its first two
abbrev pub named_only : List ℕ → Definition
named_only name = record { name = name; controls = []; arrays = []; units = []; wires = [] }

abbrev pub parameter : List ℕ → ℤ → Parameter
parameter name default = record { name = name; default = default }

abbrev pub with_controls : Definition → List Parameter → Definition
with_controls d controls = record d { controls = d.controls ++ controls }

abbrev pub with_control : Definition → List ℕ → ℤ → Definition
with_control d name default = with_controls d (parameter name default ∷ [])

-- the elements of an array are NAME, NAME.1, NAME.2 and so on; 46 is `.`
abbrev pub element_name : List ℕ → ℕ → List ℕ
element_name name number = if number == 0 then name else name ++ 46 ∷ decimal number

-- the elements of an array from this number on
abbrev pub elements : List ℕ → ℕ → List ℤ → List Parameter
elements name number [] = []
elements name number (v ∷ vs) = parameter (element_name name number) v ∷ elements name (number + 1) vs

abbrev pub run : ℕ → ℕ → Run
run first len = record { first = first; len = len }

abbrev pub with_run : Definition → ℕ → ℕ → Definition
with_run d first len = record d { arrays = d.arrays ++ run first len ∷ [] }

-- one more array: its elements are the next controls
abbrev pub with_array : Definition → List ℕ → List ℤ → Definition
with_array d name defaults = with_run (with_controls d (elements name 0 defaults)) (length d.controls) (length defaults)

abbrev pub unit_line : Kind → List Input → ℕ → UnitLine
unit_line kind inputs outputs = record { kind = kind; inputs = inputs; outputs = outputs }

abbrev pub with_wires : Definition → List (List ℕ) → Definition
with_wires d names = record d { wires = d.wires ++ names }

abbrev pub with_unit : Definition → Kind → List Input → ℕ → Definition
with_unit d kind inputs outputs = record d { units = d.units ++ unit_line kind inputs outputs ∷ [] }

-- one more, if there is one
abbrev pub one_more : Option ℕ → Option ℕ
one_more (Some k) = Some (k + 1)
one_more None = None

-- where a name stands in a list of names
unfoldable pub place_of : List ℕ → List (List ℕ) → Option ℕ
place_of name [] = None
place_of name (n ∷ ns) = if bytes_eq n name then Some 0 else one_more (place_of name ns)

abbrev pub control_names : Definition → List (List ℕ)
control_names d = map (λ c. c.name) d.controls

abbrev pub or_else : Option Input → Option Input → Option Input
or_else (Some x) other = Some x
or_else None other = other

abbrev pub as_control : Option ℕ → Option Input
as_control (Some k) = Some (Control k)
as_control None = None

abbrev pub as_wire : Option ℕ → Option Input
as_wire (Some k) = Some (Wire k)
as_wire None = None

-- what a name stands for: a control or a wire
unfoldable pub named : Definition → List ℕ → Option Input
named d name = or_else (as_control (place_of name (control_names d))) (as_wire (place_of name d.wires))
