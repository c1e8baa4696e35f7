-- The definition texts, line by line, and what they define.
use Rattle.std.specs.Prelude.{◌≡◌, ◌+◌, ◌≤◌, ◌==◌, ◌&&◌, ◌||◌, ◌∷◌, ◌++◌, ℕ, ℤ, Bool, true, false, List, [], length, codes, Some, None, nat_le, slice_get, slice_index, flat_map, if◌then◌else◌}
use Rattle.std.specs.List.{list_all, join_with_byte}
use Rattle.sn_ports.specs.Limits.{most_elements}
use Rattle.sn_fixed.specs.Literal.{literal}
use Rattle.sn_def.specs.declared.arrays.Run.{Run}
use Rattle.sn_def.specs.declared.unit.Input.{Input}
use Rattle.sn_def.specs.declared.unit.Input.TheVariants.{Literal, Control, Wire}
use Rattle.sn_def.specs.declared.unit.Unit.{Unit as UnitLine}
use Rattle.sn_def.specs.declared.version.Version.{Version}
use Rattle.sn_def.specs.declared.version.Version.TheVariants as versions
use Rattle.sn_def.specs.Units.{kind_named}
use Rattle.sn_def.specs.Definition.{Definition, Parameter, place_of, control_names, elements, run}
use Rattle.sn_def.specs.Versions.{title, most_controls}
use Rattle.sn_def.specs.Reading.{UnitParts, is_name, is_name_byte, begins_name}
use Rattle.sn_def.specs.WellFormed.{IsWellFormed}

-- What all names that a text gives have in common, even those of elements: 1 to 35 letters, digits, `_` and `.`, not
-- beginning with a digit or `.`.
abbrev pub is_given_byte : ℕ → Bool
is_given_byte b = is_name_byte b || (b == 46)

unfoldable pub is_given_name : List ℕ → Bool
is_given_name name = begins_name (slice_index name 0) && nat_le (length name) 35 && list_all is_given_byte name

-- fields separated by one space, and a line feed
abbrev pub line : List (List ℕ) → List ℕ
line fields = join_with_byte 32 fields ++ 10 ∷ []

-- a line of controls, which begins with the word `control` or `array`: the name, the literals, and their values
pub record ControlLine : Type 0 where
  pub is_array : Bool
  pub name : List ℕ
  pub literals : List (List ℕ)
  pub defaults : List ℤ

abbrev pub control_fields : ControlLine → List (List ℕ)
control_fields c = (if c.is_array then codes "array" else codes "control") ∷ c.name ∷ c.literals

-- the names of the output wires, and `=` if there are any
abbrev pub output_fields : List (List ℕ) → List (List ℕ)
output_fields [] = []
output_fields (n ∷ ns) = (n ∷ ns) ++ codes "=" ∷ []

abbrev pub unit_fields : UnitParts → List (List ℕ)
unit_fields u = output_fields u.outputs ++ u.unit ∷ u.inputs

-- the title and the line `def NAME`, the controls, the units, and the line `end`
abbrev pub text_of : Version → List ℕ → List ControlLine → List UnitParts → List ℕ
text_of v name controls units =
    (title v ++ 10 ∷ []) ++ (line (codes "def" ∷ name ∷ []) ++ (flat_map (λ c. line (control_fields c)) controls ++ (flat_map (λ u. line (unit_fields u)) units ++ line (codes "end" ∷ []))))

-- the controls that lines give
abbrev pub controls_of : List ControlLine → List Parameter
controls_of lines = flat_map (λ c. elements c.name 0 c.defaults) lines

-- and their arrays, if so many controls stand before them
abbrev pub arrays_of : ℕ → List ControlLine → List Run
arrays_of before [] = []
arrays_of before (c ∷ cs) = (if c.is_array then run before (length c.defaults) ∷ [] else []) ++ arrays_of (before + length c.defaults) cs

-- each element
abbrev pub Every : {A : Type 0} → (A → Type 0) → List A → Type 0
Every P [] = Unit {0}
Every P (x ∷ xs) = P x × Every P xs

-- one of the second list for each of the first
abbrev pub Each : {A B : Type 0} → (A → B → Type 0) → List A → List B → Type 0
Each R [] [] = Unit {0}
Each R [] (y ∷ ys) = ⊥
Each R (x ∷ xs) [] = ⊥
Each R (x ∷ xs) (y ∷ ys) = R x y × Each R xs ys

-- 1 to 64 literals for an array, which stands in version 2 alone
abbrev pub ArrayMayHave : Version → ℕ → Type 0
ArrayMayHave versions.One literals = ⊥
ArrayMayHave versions.Two literals = (1 ≤ literals) × (literals ≤ most_elements)

-- and one for a control
abbrev pub MayHave : Version → Bool → ℕ → Type 0
MayHave v false literals = literals ≡ 1
MayHave v true literals = ArrayMayHave v literals

abbrev pub IsValue : List ℕ → ℤ → Type 0
IsValue field v = literal field ≡ Some v

pub record IsControlLine (v : Version) (c : ControlLine) : Type 0 where
  pub name : is_name v c.name ≡ true
  pub count : MayHave v c.is_array (length c.literals)
  pub values : Each IsValue c.literals c.defaults

-- a literal of the value, or the name of the control or wire
abbrev pub IsInput : Definition → List ℕ → Input → Type 0
IsInput d field (Literal v) = literal field ≡ Some v
IsInput d field (Control k) = slice_get (control_names d) k ≡ Some field
IsInput d field (Wire k) = slice_get d.wires k ≡ Some field

pub record IsUnit (d : Definition) (parts : UnitParts) (u : UnitLine) : Type 0 where
  pub kind : kind_named parts.unit ≡ Some u.kind
  pub outputs : length parts.outputs ≡ u.outputs
  pub inputs : Each (IsInput d) parts.inputs u.inputs

-- no name is given twice
abbrev pub AreDistinct : List (List ℕ) → Type 0
AreDistinct [] = Unit {0}
AreDistinct (n ∷ ns) = (place_of n ns ≡ None) × AreDistinct ns

-- controls and wires share one space of names
abbrev pub names_of : Definition → List (List ℕ)
names_of d = control_names d ++ d.wires

-- The text has these lines, and the definition is what they say.
pub record DefinitionText (text : List ℕ) (d : Definition) : Type 0 where
  pub version : Version
  pub controls : List ControlLine
  pub units : List UnitParts
  pub lines : text ≡ text_of version d.name controls units
  pub each_control : Every (IsControlLine version) controls
  pub controls_are : controls_of controls ≡ d.controls
  pub arrays_are : arrays_of 0 controls ≡ d.arrays
  pub each_unit : Each (IsUnit d) units d.units
  pub outputs : flat_map (λ u. u.outputs) units ≡ d.wires
  pub named : is_name version d.name ≡ true
  pub wires : list_all (is_name version) d.wires ≡ true
  pub distinct : AreDistinct (names_of d)
  pub few : length d.controls ≤ most_controls version
  pub formed : IsWellFormed d
