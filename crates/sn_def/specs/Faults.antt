-- The first fault of a text that defines nothing.
use Rattle.std.specs.Prelude.{◌≡◌, ◌<◌, ◌+◌, ◌∷◌, ◌++◌, ◌⊎◌, ◌==◌, ◌&&◌, ◌||◌, ℕ, ℤ, pos, int_le, Bool, true, false, not, List, [], length, codes, flat_map, nat_lt, nat_le, slice_get, unwrap_or, Option, Some, None, is_some, map, drop, if◌then◌else◌}
use Rattle.std.specs.List.{list_all, list_any}
use Rattle.std.specs.Str.{bytes_eq}
use Rattle.sn_ports.specs.Limits.{most_elements, most_units, most_wires}
use Rattle.sn_fixed.specs.Literal.{literal}
use Rattle.sn_def.specs.declared.kind.Kind.{Kind}
use Rattle.sn_def.specs.declared.table.Mark.{Mark}
use Rattle.sn_def.specs.declared.table.Mark.TheVariants.{Index, Constant, Longest}
use Rattle.sn_def.specs.declared.fault.DefKind.{DefKind}
use Rattle.sn_def.specs.declared.fault.DefKind.TheVariants as wrong
use Rattle.sn_def.specs.Units.{UnitRow, row_of, kind_named}
use Rattle.sn_def.specs.Definition.{Definition, control_names}
use Rattle.sn_def.specs.declared.version.Version.{Version}
use Rattle.sn_def.specs.Versions.{title, most_controls}
use Rattle.sn_def.specs.Reading.{UnitParts, pieces, first_of, is_array_word, is_reserved, is_name, mark_at, unit_parts, counts_fit}
use Rattle.sn_def.specs.StateWords.{is_longest}
use Rattle.sn_def.specs.Grammar.{DefinitionText, names_of}

-- The table of kinds. Each row is a test, and the kind of a line if it holds. The first row that holds counts.
abbrev pub Kinds : Type 0
Kinds = List (Bool × DefKind)

abbrev pub first_kind : Kinds → Option DefKind
first_kind [] = None
first_kind (row ∷ rows) = if row.0 then Some row.1 else first_kind rows

-- the field of this number, from 0
abbrev pub field_at : List (List ℕ) → ℕ → List ℕ
field_at fields i = unwrap_or (slice_get fields i) []

-- so many fields, separated by one space each
abbrev pub has_fields : ℕ → List (List ℕ) → Bool
has_fields n fields = length fields == n && not (list_any (λ f. length f == 0) fields)

abbrev pub is_literal : List ℕ → Bool
is_literal field = is_some (literal field)

abbrev pub is_among : List ℕ → List (List ℕ) → Bool
is_among name names = list_any (λ n. bytes_eq n name) names

-- a control of the lines before
abbrev pub is_control : Definition → List ℕ → Bool
is_control d name = is_among name (control_names d)

-- a name that the lines before give
abbrev pub is_given : Definition → List ℕ → Bool
is_given d name = is_among name (names_of d)

-- one of these names is given already, or stands twice
abbrev pub is_given_twice : List (List ℕ) → List (List ℕ) → Bool
is_given_twice given [] = false
is_given_twice given (n ∷ ns) = is_among n given || is_given_twice (given ++ n ∷ []) ns

abbrev pub asks_index : Mark → Bool
asks_index Index = true
asks_index _ = false

abbrev pub asks_constant : Mark → Bool
asks_constant Constant = true
asks_constant Longest = true
asks_constant _ = false

-- 0 to 60,000 milliseconds
abbrev pub is_delay : Option ℤ → Bool
is_delay (Some v) = int_le (pos 0) v && int_le v (pos 60000)
is_delay None = false

-- the line `def NAME`
abbrev pub def_kinds : Version → List (List ℕ) → Kinds
def_kinds v fields =
    (not (has_fields 2 fields && bytes_eq (first_of fields) (codes "def")), wrong.Line)
    ∷ (not (is_name v (field_at fields 1)), wrong.Name)
    ∷ []

-- a line `control NAME LITERAL`; it stands before the units
abbrev pub control_kinds : Version → Definition → List (List ℕ) → Kinds
control_kinds v d fields =
    (not (has_fields 3 fields && length d.units == 0), wrong.Line)
    ∷ (nat_le (most_controls v) (length d.controls), wrong.Limit)
    ∷ (not (is_name v (field_at fields 1)), wrong.Name)
    ∷ (is_given d (field_at fields 1), wrong.Twice)
    ∷ (not (is_literal (field_at fields 2)), wrong.Number)
    ∷ []

-- literals, from the left
abbrev pub literals_kinds : List (List ℕ) → Kinds
literals_kinds fields = map (λ f. (not (is_literal f), wrong.Number)) fields

-- A line `array NAME LITERAL ..`; it stands before the units. With `=` in place of the name it has another shape.
abbrev pub array_kinds : Version → Definition → List (List ℕ) → Kinds
array_kinds v d fields =
    (not (nat_le 3 (length fields) && not (list_any (λ f. length f == 0) fields) && not (bytes_eq (field_at fields 1) (codes "=")) && length d.units == 0), wrong.Line)
    ∷ (nat_lt most_elements (length (drop 2 fields)), wrong.Limit)
    ∷ (nat_lt (most_controls v) (length d.controls + length (drop 2 fields)), wrong.Limit)
    ∷ (not (is_name v (field_at fields 1)), wrong.Name)
    ∷ (is_given d (field_at fields 1), wrong.Twice)
    ∷ literals_kinds (drop 2 fields)

-- an input of a unit line
abbrev pub input_kinds : Definition → Mark → List ℕ → Kinds
input_kinds d mark field =
    (not (is_literal field || is_given d field), wrong.Input)
    ∷ (asks_index mark && not (is_literal field || is_control d field), wrong.Index)
    ∷ (asks_constant mark && not (is_literal field), wrong.Constant)
    ∷ (is_longest mark && not (is_delay (literal field)), wrong.Constant)
    ∷ []

-- inputs from number i on, from the left
abbrev pub inputs_kinds : Definition → List Mark → ℕ → List (List ℕ) → Kinds
inputs_kinds d marks i [] = []
inputs_kinds d marks i (field ∷ fields) = input_kinds d (mark_at marks i) field ++ inputs_kinds d marks (i + 1) fields

-- a unit line whose unit has this row
abbrev pub row_kinds : Version → Definition → UnitParts → UnitRow → Kinds
row_kinds v d parts row =
    (not (counts_fit row (length parts.inputs) (length parts.outputs)), wrong.Count)
    ∷ (not (list_all (is_name v) parts.outputs), wrong.Name)
    ∷ (is_given_twice (names_of d) parts.outputs, wrong.Twice)
    ∷ inputs_kinds d row.inputs 0 parts.inputs

abbrev pub known_kinds : Version → Definition → UnitParts → Option Kind → Kinds
known_kinds v d parts None = (true, wrong.Unit) ∷ []
known_kinds v d parts (Some kind) = row_kinds v d parts (row_of kind)

-- a unit line, by its parts
abbrev pub unit_kinds : Version → Definition → UnitParts → Kinds
unit_kinds v d parts =
    (nat_le most_units (length d.units), wrong.Limit)
    ∷ (nat_lt most_wires (length d.wires + length parts.outputs), wrong.Limit)
    ∷ known_kinds v d parts (kind_named parts.unit)

abbrev pub parts_kinds : Version → Definition → Option UnitParts → Kinds
parts_kinds v d None = (true, wrong.Line) ∷ []
parts_kinds v d (Some parts) = unit_kinds v d parts

-- A line after the first two, if the lines before it define d. It is a control's or an array's if it begins with that
-- word. Else it is a unit's, which begins with no word of another line.
abbrev pub line_kinds : Version → Definition → List (List ℕ) → Kinds
line_kinds v d fields =
    if bytes_eq (first_of fields) (codes "control") then control_kinds v d fields else
    if is_array_word v (first_of fields) then array_kinds v d fields else
    (list_any (λ f. length f == 0) fields || is_reserved v (first_of fields), wrong.Line) ∷ parts_kinds v d (unit_parts fields)

-- whole lines, each with its line feed
abbrev pub lines_text : List (List ℕ) → List ℕ
lines_text lines = flat_map (λ l. l ++ 10 ∷ []) lines

abbrev pub Defines : List ℕ → Type 0
Defines text = (d : Definition) × DefinitionText text d

-- lines with which some definition text begins
abbrev pub Begins : List (List ℕ) → Type 0
Begins lines = (more : List ℕ) × Defines (lines_text lines ++ more)

-- A line that is judged by what the earlier ones with the line `end` define; after the line `end` there is none.
abbrev pub IsWrong : Version → List (List ℕ) → List ℕ → DefKind → Type 0
IsWrong v earlier line kind =
    ((d : Definition) × (DefinitionText (lines_text (earlier ++ codes "end" ∷ [])) d × (first_kind (line_kinds v d (pieces 32 line)) ≡ Some kind))) ⊎ (Defines (lines_text earlier) × (kind ≡ wrong.Line))

-- the first kind that applies to a line after the title and the lines that follow it
abbrev pub KindBehind : Version → List ℕ → List (List ℕ) → List ℕ → DefKind → Type 0
KindBehind v first [] line kind = first_kind (def_kinds v (pieces 32 line)) ≡ Some kind
KindBehind v first (named ∷ lines) line kind = IsWrong v (first ∷ named ∷ lines) line kind

-- the first kind that applies to a line after the earlier ones, of which the first names the version
abbrev pub KindOf : List (List ℕ) → List ℕ → DefKind → Type 0
KindOf [] line kind = kind ≡ wrong.Line
KindOf (first ∷ lines) line kind = (v : Version) × ((first ≡ title v) × KindBehind v first lines line kind)

-- The text defines nothing. The lines before this one begin some definition text. If this line is whole, then together
-- with it they begin none, and its kind is the first that applies. If the lines end before that, the kind is `Line`.
pub record DefinitionFault (text : List ℕ) (number : ℕ) (kind : DefKind) : Type 0 where
  pub none : Defines text → ⊥
  pub earlier : List (List ℕ)
  pub line : List ℕ
  pub later : List (List ℕ)
  pub lines : pieces 10 text ≡ earlier ++ line ∷ later
  pub number_is : number ≡ length earlier + 1
  pub begins : Begins earlier
  pub whole : 0 < length later → (Begins (earlier ++ line ∷ []) → ⊥) × KindOf earlier line kind
  pub cut : length later ≡ 0 → kind ≡ wrong.Line
