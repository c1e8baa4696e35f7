-- Reading a definition text from left to right.
use Rattle.std.specs.Prelude.{◌≡◌, ◌+◌, ◌==◌, ◌&&◌, ◌||◌, not, ℕ, ℤ, pos, int_le, Bool, false, List, [], ◌∷◌, length, take, drop, position, slice_index, Option, Some, None, Result, Ok, Err, nat_lt, nat_le, if◌then◌else◌, codes, unwrap_or, is_some, slice_get}
use Rattle.std.specs.List.{list_all, list_any, slice_split}
use Rattle.std.specs.Str.{bytes_eq}
use Rattle.std.specs.Char.{is_ascii_digit}
use Rattle.sn_ports.specs.Limits.{most_elements, most_wires, most_units}
use Rattle.sn_fixed.specs.Literal.{literal}
use Rattle.sn_def.specs.declared.kind.Kind.{Kind}
use Rattle.sn_def.specs.declared.table.Mark.{Mark}
use Rattle.sn_def.specs.declared.table.Mark.TheVariants.{Signal, Index, Constant, Longest}
use Rattle.sn_def.specs.declared.fault.DefKind.{DefKind}
use Rattle.sn_def.specs.declared.fault.DefKind.TheVariants as wrong
use Rattle.sn_def.specs.declared.fault.DefFault.{DefFault}
use Rattle.sn_def.specs.declared.unit.Input.{Input}
use Rattle.sn_def.specs.declared.unit.Input.TheVariants.{Literal, Wire}
use Rattle.sn_def.specs.declared.version.Version.{Version}
use Rattle.sn_def.specs.Units.{UnitRow, row_of, kind_named}
use Rattle.sn_def.specs.Definition.{Definition, named, named_only, with_control, with_array, with_wires, with_unit}
use Rattle.sn_def.specs.Versions.{version_of, most_controls, has_arrays}

infixl 10 ◌>>=◌
abbrev pub ◌>>=◌ : {A B E : Type 0} → Result A E → (A → Result B E) → Result B E
(Ok x) >>= f = f x
(Err e) >>= f = Err e

-- the parts of a text between bytes b: one more than there are such bytes
abbrev pub pieces : ℕ → List ℕ → List (List ℕ)
pieces b text = slice_split (λ x. x == b) text

-- letters and `_`
abbrev pub begins_name : ℕ → Bool
begins_name b = (nat_le 65 b && nat_le b 90) || (nat_le 97 b && nat_le b 122) || (b == 95)

abbrev pub is_name_byte : ℕ → Bool
is_name_byte b = begins_name b || is_ascii_digit b

abbrev pub first_of : List (List ℕ) → List ℕ
first_of [] = []
first_of (f ∷ fs) = f

-- the word that begins the line of an array
abbrev pub is_array_word : Version → List ℕ → Bool
is_array_word v word = has_arrays v && bytes_eq word (codes "array")

-- the words that begin lines
abbrev pub is_reserved : Version → List ℕ → Bool
is_reserved v word =
    bytes_eq word (codes "snova") || bytes_eq word (codes "def") || bytes_eq word (codes "control") || bytes_eq word (codes "end") || is_array_word v word

-- 1 to 31 letters, digits and `_`, not beginning with a digit, and no word that begins lines
unfoldable pub is_name : Version → List ℕ → Bool
is_name v name = begins_name (slice_index name 0) && nat_le (length name) 31 && list_all is_name_byte name && not (is_reserved v name)

-- a name that stands for something
abbrev pub is_known : Definition → List ℕ → Bool
is_known d name = is_some (named d name)

-- `control NAME LITERAL`
abbrev pub default_at : Definition → List ℕ → Option ℤ → Result Definition DefKind
default_at d name (Some v) = Ok (with_control d name v)
default_at d name None = Err wrong.Number

unfoldable pub control_at : Version → Definition → List ℕ → List ℕ → Result Definition DefKind
control_at v d name value =
    if not (length d.units == 0) then Err wrong.Line else
    if nat_le (most_controls v) (length d.controls) then Err wrong.Limit else
    if not (is_name v name) then Err wrong.Name else
    if is_known d name then Err wrong.Twice else default_at d name (literal value)

-- `array NAME LITERAL ..`
abbrev pub default_of : Option ℤ → Result ℤ DefKind
default_of (Some v) = Ok v
default_of None = Err wrong.Number

-- literals, from the left
unfoldable pub defaults_at : List (List ℕ) → Result (List ℤ) DefKind
defaults_at [] = Ok []
defaults_at (field ∷ fields) = do
  v ← default_of (literal field)
  others ← defaults_at fields
  Ok (v ∷ others)

abbrev pub array_with : Definition → List ℕ → List (List ℕ) → Result Definition DefKind
array_with d name literals = do
  defaults ← defaults_at literals
  Ok (with_array d name defaults)

-- 1 to 64 literals
unfoldable pub array_at : Version → Definition → List ℕ → List (List ℕ) → Result Definition DefKind
array_at v d name literals =
    if not (length d.units == 0) then Err wrong.Line else
    if nat_lt most_elements (length literals) || nat_lt (most_controls v) (length d.controls + length literals) then Err wrong.Limit else
    if not (is_name v name) then Err wrong.Name else
    if is_known d name then Err wrong.Twice else array_with d name literals

-- what a unit asks of its input number i: past those that it always has, a signal
abbrev pub mark_at : List Mark → ℕ → Mark
mark_at marks i = unwrap_or (slice_get marks i) Signal

-- a literal that is an input
abbrev pub literal_at : Mark → ℤ → Result Input DefKind
literal_at Longest v = if int_le (pos 0) v && int_le v (pos 60000) then Ok (Literal v) else Err wrong.Constant
literal_at _ v = Ok (Literal v)

-- a name that is an input
abbrev pub name_at : Mark → Option Input → Result Input DefKind
name_at mark None = Err wrong.Input
name_at Signal (Some x) = Ok x
name_at Index (Some (Wire k)) = Err wrong.Index
name_at Index (Some x) = Ok x
name_at Constant (Some x) = Err wrong.Constant
name_at Longest (Some x) = Err wrong.Constant

abbrev pub value_or_name_at : Mark → Option ℤ → Option Input → Result Input DefKind
value_or_name_at mark (Some v) name = literal_at mark v
value_or_name_at mark None name = name_at mark name

unfoldable pub input_at : Definition → Mark → List ℕ → Result Input DefKind
input_at d mark field = value_or_name_at mark (literal field) (named d field)

-- inputs from number i on
unfoldable pub inputs_at : Definition → List Mark → ℕ → List (List ℕ) → Result (List Input) DefKind
inputs_at d marks i [] = Ok []
inputs_at d marks i (field ∷ fields) = do
  x ← input_at d (mark_at marks i) field
  others ← inputs_at d marks (i + 1) fields
  Ok (x ∷ others)

-- names given to wires one after the other, each of them new
unfoldable pub wires_at : Definition → List (List ℕ) → Result Definition DefKind
wires_at d [] = Ok d
wires_at d (n ∷ ns) = if is_known d n then Err wrong.Twice else wires_at (with_wires d (n ∷ [])) ns

-- a unit line: the names of its outputs, the unit's name, and its inputs
pub record UnitParts : Type 0 where
  pub outputs : List (List ℕ)
  pub unit : List ℕ
  pub inputs : List (List ℕ)

abbrev pub parts_from : List (List ℕ) → List (List ℕ) → Option UnitParts
parts_from outputs [] = None
parts_from outputs (unit ∷ inputs) = Some (record { outputs = outputs; unit = unit; inputs = inputs })

abbrev pub parts_at : List (List ℕ) → Option ℕ → Option UnitParts
parts_at fields None = parts_from [] fields
parts_at fields (Some i) = if i == 0 then None else parts_from (take i fields) (drop (i + 1) fields)

-- outputs stand before the first `=`
unfoldable pub unit_parts : List (List ℕ) → Option UnitParts
unit_parts fields = parts_at fields (position (λ f. bytes_eq f (codes "=")) fields)

-- as many inputs and outputs as the row allows
abbrev pub counts_fit : UnitRow → ℕ → ℕ → Bool
counts_fit row inputs outputs =
    nat_le (length row.inputs + (if row.signals == 0 then 0 else 1)) inputs && nat_le inputs (length row.inputs + row.signals) && nat_le row.least outputs && nat_le outputs row.most

-- the wires and inputs of a unit of this kind, whose counts and names are right
abbrev pub unit_with : Definition → UnitParts → Kind → Result Definition DefKind
unit_with d parts kind = do
  named_wires ← wires_at d parts.outputs
  inputs ← inputs_at d (row_of kind).inputs 0 parts.inputs
  Ok (with_unit named_wires kind inputs (length parts.outputs))

-- a unit of this kind
unfoldable pub unit_of : Version → Definition → UnitParts → Kind → Result Definition DefKind
unit_of v d parts kind =
    if not (counts_fit (row_of kind) (length parts.inputs) (length parts.outputs)) then Err wrong.Count else
    if not (list_all (is_name v) parts.outputs) then Err wrong.Name else unit_with d parts kind

abbrev pub unit_if_known : Version → Definition → UnitParts → Option Kind → Result Definition DefKind
unit_if_known v d parts (Some kind) = unit_of v d parts kind
unit_if_known v d parts None = Err wrong.Unit

unfoldable pub unit_at : Version → Definition → UnitParts → Result Definition DefKind
unit_at v d parts =
    if nat_le most_units (length d.units) || nat_lt most_wires (length d.wires + length parts.outputs) then Err wrong.Limit else
    unit_if_known v d parts (kind_named parts.unit)

abbrev pub unit_line_at : Version → Definition → Option UnitParts → Result Definition DefKind
unit_line_at v d (Some parts) = unit_at v d parts
unit_line_at v d None = Err wrong.Line

-- a line of a control: two fields after the first
abbrev pub control_line_at : Version → Definition → List (List ℕ) → Result Definition DefKind
control_line_at v d (word ∷ name ∷ value ∷ []) = control_at v d name value
control_line_at v d _ = Err wrong.Line

-- at least one literal; with `=` in place of the name it would be a unit's line, if a wire could have the name `array`
abbrev pub array_named_at : Version → Definition → List ℕ → List (List ℕ) → Result Definition DefKind
array_named_at v d name literals = if length literals == 0 || bytes_eq name (codes "=") then Err wrong.Line else array_at v d name literals

-- a line of an array, by its fields
abbrev pub array_line_at : Version → Definition → List (List ℕ) → Result Definition DefKind
array_line_at v d (word ∷ name ∷ literals) = array_named_at v d name literals
array_line_at v d _ = Err wrong.Line

-- a line between the first two and `end`
unfoldable pub line_at : Version → Definition → List (List ℕ) → Result Definition DefKind
line_at v d fields =
    let word = first_of fields in
    if list_any (λ f. length f == 0) fields then Err wrong.Line else
    if bytes_eq word (codes "control") then control_line_at v d fields else
    if is_array_word v word then array_line_at v d fields else
    if is_reserved v word then Err wrong.Line else unit_line_at v d (unit_parts fields)

abbrev pub fault : ℕ → DefKind → DefFault
fault line kind = record { line = line; kind = kind }

abbrev pub at_line : ℕ → Result Definition DefKind → Result Definition DefFault
at_line line (Ok d) = Ok d
at_line line (Err kind) = Err (fault line kind)

-- nothing stands after the last line feed
abbrev pub is_over : List (List ℕ) → Bool
is_over (p ∷ []) = length p == 0
is_over _ = false

-- the line `end`, of this number, is the last one
abbrev pub end_at : ℕ → Definition → List (List ℕ) → Result Definition DefFault
end_at number d after = if is_over after then Ok d else Err (fault (number + 1) wrong.Line)

-- lines from this number on, if those before them define d; the last piece of a text is no whole line
unfoldable pub body_at : Version → ℕ → Definition → List (List ℕ) → Result Definition DefFault
body_at v number d [] = Err (fault number wrong.Line)
body_at v number d (line ∷ after) =
    if length after == 0 then Err (fault number wrong.Line) else
    if bytes_eq line (codes "end") then end_at number d after else (do
      next ← at_line number (line_at v d (pieces 32 line))
      body_at v (number + 1) next after)

-- `def NAME`
abbrev pub named_at : Version → List ℕ → List ℕ → Result Definition DefFault
named_at v word name =
    if not (bytes_eq word (codes "def")) || length name == 0 then Err (fault 2 wrong.Line) else
    if not (is_name v name) then Err (fault 2 wrong.Name) else Ok (named_only name)

abbrev pub def_at : Version → List (List ℕ) → Result Definition DefFault
def_at v (word ∷ name ∷ []) = named_at v word name
def_at v _ = Err (fault 2 wrong.Line)

-- the line `def NAME`, by its fields, and the lines after it
abbrev pub def_and_body : Version → List (List ℕ) → List (List ℕ) → Result Definition DefFault
def_and_body v fields after = do
  d ← def_at v fields
  body_at v 3 d after

-- the lines after the first
abbrev pub after_title : Version → List (List ℕ) → Result Definition DefFault
after_title v [] = Err (fault 2 wrong.Line)
after_title v (line ∷ after) = if length after == 0 then Err (fault 2 wrong.Line) else def_and_body v (pieces 32 line) after

abbrev pub versioned_at : Option Version → List (List ℕ) → Result Definition DefFault
versioned_at None after = Err (fault 1 wrong.Line)
versioned_at (Some v) after = after_title v after

abbrev pub title_at : List (List ℕ) → Result Definition DefFault
title_at [] = Err (fault 1 wrong.Line)
title_at (line ∷ after) = if length after == 0 then Err (fault 1 wrong.Line) else versioned_at (version_of line) after

unfoldable pub text_at : List ℕ → Result Definition DefFault
text_at text = title_at (pieces 10 text)

-- what some text defines
abbrev pub IsWritten : Definition → Type 0
IsWritten d = (text : List ℕ) × (text_at text ≡ Ok d)
