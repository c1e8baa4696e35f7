-- The kind that reading gives of a line is that of the table.
use Rattle.std.proofs.Common.{◌≡◌, ℕ, ℤ, pos, ◌+◌, ◌<◌, ◌==◌, ◌&&◌, ◌||◌, ◌↔◌, Bool, true, false, cond, not, nat_le, nat_lt, List, [], ◌∷◌, ◌++◌, length, Option, Some, None, Result, Ok, Err, refl, sym, ap, ◌∙◌, arith, codes, append_assoc, is_some, eqb-true, le-leb, int_le}
use Rattle.std.specs.Str.{bytes_eq}
use Rattle.std.specs.List.{list_all, list_any}
use Rattle.std.proofs.lemmas.Bool.{false_from_ne_true}
use Rattle.std.proofs.lemmas.Slice.Eq.{bytes_eq-Decides}
use Rattle.std.proofs.lemmas.List.Folds.{list_any-append}
use Rattle.sn_fixed.specs.Literal.{literal}
use Rattle.sn_def.specs.declared.kind.Kind.{Kind}
use Rattle.sn_def.specs.declared.table.Mark.{Mark}
use Rattle.sn_def.specs.declared.table.Mark.TheVariants.{Signal, Index, Constant, Longest}
use Rattle.sn_def.specs.declared.fault.DefKind.{DefKind}
use Rattle.sn_def.specs.declared.fault.DefKind.TheVariants as wrong
use Rattle.sn_def.specs.declared.fault.DefFault.{DefFault}
use Rattle.sn_def.specs.declared.unit.Input.TheVariants.{Literal}
use Rattle.sn_def.specs.Units.{row_of, kind_named}
use Rattle.sn_def.specs.declared.version.Version.{Version}
use Rattle.sn_def.specs.Definition.{Definition, place_of, one_more, or_else, as_control, as_wire, named, named_only, control_names, with_array, with_wires, with_unit}
use Rattle.sn_def.specs.Versions.{most_controls}
use Rattle.sn_def.specs.Reading.{◌>>=◌, is_name, is_known, is_array_word, is_reserved, first_of, default_at, control_at, default_of, defaults_at, array_with, array_at, mark_at, value_or_name_at, input_at, inputs_at, wires_at, UnitParts, counts_fit, unit_of, unit_if_known, unit_at, unit_line_at, unit_parts, control_line_at, array_line_at, line_at, fault, named_at, def_at}
use Rattle.sn_def.specs.StateWords.{is_longest}
use Rattle.sn_def.specs.Grammar.{names_of}
use Rattle.sn_def.specs.Faults.{Kinds, first_kind, is_literal, is_among, is_control, is_given, is_given_twice, asks_index, asks_constant, is_delay, def_kinds, control_kinds, literals_kinds, array_kinds, input_kinds, inputs_kinds, row_kinds, known_kinds, parts_kinds, line_kinds}

-- the kind of a fault, if there is one
abbrev error_of : {A : Type 0} → Result A DefKind → Option DefKind
error_of (Ok x) = None
error_of (Err k) = Some k

abbrev or_first : Option DefKind → Option DefKind → Option DefKind
or_first (Some k) o = Some k
or_first None o = o

or_none : (o : Option DefKind) → or_first o None ≡ o
or_none (Some k) = refl
or_none None = refl

error-cond : {A : Type 0} (b : Bool) (k : DefKind) (r : Result A DefKind) (o : Option DefKind) → error_of r ≡ o → error_of (cond b (Err k) r) ≡ cond b (Some k) o
error-cond true k r o h = refl
error-cond false k r o h = h

error-or : {A : Type 0} (a b : Bool) (k : DefKind) (r : Result A DefKind) (o : Option DefKind) → error_of r ≡ o → error_of (cond (a || b) (Err k) r) ≡ cond a (Some k) (cond b (Some k) o)
error-or true b k r o h = refl
error-or false true k r o h = refl
error-or false false k r o h = h

error-bind : {A B : Type 0} (r : Result A DefKind) (f : A → Result B DefKind) (o : Option DefKind) → ((x : A) → error_of (f x) ≡ o) → error_of (r >>= f) ≡ or_first (error_of r) o
error-bind (Ok x) f o h = h x
error-bind (Err k) f o h = refl

first-append : (xs ys : Kinds) → first_kind (xs ++ ys) ≡ or_first (first_kind xs) (first_kind ys)
first-append [] ys = refl
first-append (x ∷ xs) ys = step x.0 x.1 (first_kind (xs ++ ys)) (first_kind xs) (first_kind ys) (first-append xs ys)
  where
    step : (b : Bool) (k : DefKind) (both o p : Option DefKind) → both ≡ or_first o p → cond b (Some k) both ≡ or_first (cond b (Some k) o) p
    step true k both o p h = refl
    step false k both o p h = h

-- what has a place among names is one of them
place_some : (name : List ℕ) (names : List (List ℕ)) → is_some (place_of name names) ≡ is_among name names
unfolding place_of
place_some name [] = refl
place_some name (n ∷ ns) = step (bytes_eq n name) (place_of name ns) (is_among name ns) (place_some name ns)
  where
    step : (b : Bool) (o : Option ℕ) (r : Bool) → is_some o ≡ r → is_some (cond b (Some 0) (one_more o)) ≡ (b || r)
    step true o r h = refl
    step false None r h = h
    step false (Some k) r h = h

both_given : (d : Definition) (name : List ℕ) → (is_some (place_of name (control_names d)) || is_some (place_of name d.wires)) ≡ is_given d name
both_given d name =
    ap (λ (b : Bool). b || is_some (place_of name d.wires)) (place_some name (control_names d))
    ∙ ap (λ (b : Bool). is_control d name || b) (place_some name d.wires) ∙ sym (list_any-append (λ n. bytes_eq n name) (control_names d) d.wires)

known_given : (d : Definition) (name : List ℕ) → is_known d name ≡ is_given d name
unfolding named
known_given d name = step (place_of name (control_names d)) (place_of name d.wires) ∙ both_given d name
  where
    step : (a b : Option ℕ) → is_some (or_else (as_control a) (as_wire b)) ≡ (is_some a || is_some b)
    step (Some k) b = refl
    step None (Some k) = refl
    step None None = refl

-- an input, by the literal that it is, and by whether it is a control or given at all
kinds_by : Mark → Option ℤ → Bool → Bool → Kinds
kinds_by mark v control given =
    (not (is_some v || given), wrong.Input)
    ∷ (asks_index mark && not (is_some v || control), wrong.Index)
    ∷ (asks_constant mark && not (is_some v), wrong.Constant)
    ∷ (is_longest mark && not (is_delay v), wrong.Constant)
    ∷ []

by_parts : (mark : Mark) (v : Option ℤ) (a b : Option ℕ) → error_of (value_or_name_at mark v (or_else (as_control a) (as_wire b))) ≡ first_kind (kinds_by mark v (is_some a) (is_some a || is_some b))
unfolding kinds_by
by_parts Signal (Some v) a b = refl
by_parts Signal None (Some k) b = refl
by_parts Signal None None (Some k) = refl
by_parts Signal None None None = refl
by_parts Index (Some v) a b = refl
by_parts Index None (Some k) b = refl
by_parts Index None None (Some k) = refl
by_parts Index None None None = refl
by_parts Constant (Some v) a b = refl
by_parts Constant None (Some k) b = refl
by_parts Constant None None (Some k) = refl
by_parts Constant None None None = refl
by_parts Longest (Some v) a b = range (int_le (pos 0) v && int_le v (pos 60000))
  where
    range : (r : Bool) → error_of (cond r (Ok (Literal v)) (Err wrong.Constant)) ≡ cond (not r) (Some wrong.Constant) None
    range true = refl
    range false = refl
by_parts Longest None (Some k) b = refl
by_parts Longest None None (Some k) = refl
by_parts Longest None None None = refl

input_judged : (d : Definition) (mark : Mark) (field : List ℕ) → error_of (input_at d mark field) ≡ first_kind (input_kinds d mark field)
unfolding input_at named kinds_by
input_judged d mark field =
    let a = place_of field (control_names d) in
    let b = place_of field d.wires in
    by_parts mark (literal field) a b
    ∙ ap (λ (c : Bool). first_kind (kinds_by mark (literal field) c (is_some a || is_some b))) (place_some field (control_names d))
    ∙ ap (λ (g : Bool). first_kind (kinds_by mark (literal field) (is_control d field) g)) (both_given d field)

inputs_judged : (d : Definition) (marks : List Mark) (i : ℕ) (fields : List (List ℕ)) → error_of (inputs_at d marks i fields) ≡ first_kind (inputs_kinds d marks i fields)
unfolding inputs_at
inputs_judged d marks i [] = refl
inputs_judged d marks i (field ∷ fields) =
    error-bind (input_at d (mark_at marks i) field) _ (first_kind (inputs_kinds d marks (i + 1) fields))
    (λ x. error-bind (inputs_at d marks (i + 1) fields) (λ others. Ok (x ∷ others)) None (λ others. refl) ∙ or_none (error_of (inputs_at d marks (i + 1) fields)) ∙ inputs_judged d marks (i + 1) fields)
    ∙ ap (λ (o : Option DefKind). or_first o (first_kind (inputs_kinds d marks (i + 1) fields))) (input_judged d (mark_at marks i) field)
    ∙ sym (first-append (input_kinds d (mark_at marks i) field) (inputs_kinds d marks (i + 1) fields))

wires_judged : (d : Definition) (ns : List (List ℕ)) → error_of (wires_at d ns) ≡ cond (is_given_twice (names_of d) ns) (Some wrong.Twice) None
unfolding wires_at
wires_judged d [] = refl
wires_judged d (n ∷ ns) =
    step (is_known d n) (is_given d n) (wires_at (with_wires d (n ∷ [])) ns) (is_given_twice (names_of d ++ n ∷ []) ns) (known_given d n)
    (wires_judged (with_wires d (n ∷ [])) ns ∙ ap (λ (names : List (List ℕ)). cond (is_given_twice names ns) (Some wrong.Twice) None) (sym (append_assoc (control_names d) d.wires (n ∷ []))))
  where
    step : (b c : Bool) (r : Result Definition DefKind) (t : Bool) → b ≡ c → error_of r ≡ cond t (Some wrong.Twice) None → error_of (cond b (Err wrong.Twice) r) ≡ cond (c || t) (Some wrong.Twice) None
    step true true r t same h = refl
    step false false r t same h = h
    step true false r t same h = cc
    step false true r t same h = cc

unit_of_judged : (v : Version) (d : Definition) (parts : UnitParts) (kind : Kind) → error_of (unit_of v d parts kind) ≡ first_kind (row_kinds v d parts (row_of kind))
unfolding unit_of
unit_of_judged v d parts kind =
    let marks = (row_of kind).inputs in
    let rest = first_kind (inputs_kinds d marks 0 parts.inputs) in
    error-cond (not (counts_fit (row_of kind) (length parts.inputs) (length parts.outputs))) wrong.Count _ _
    (error-cond (not (list_all (is_name v) parts.outputs)) wrong.Name _ _
    (error-bind (wires_at d parts.outputs) _ rest
    (λ w. error-bind (inputs_at d marks 0 parts.inputs) (λ inputs. Ok (with_unit w kind inputs (length parts.outputs))) None (λ x. refl) ∙ or_none (error_of (inputs_at d marks 0 parts.inputs)) ∙ inputs_judged d marks 0 parts.inputs)
    ∙ ap (λ (o : Option DefKind). or_first o rest) (wires_judged d parts.outputs) ∙ twice (is_given_twice (names_of d) parts.outputs) rest))
  where
    twice : (b : Bool) (o : Option DefKind) → or_first (cond b (Some wrong.Twice) None) o ≡ cond b (Some wrong.Twice) o
    twice true o = refl
    twice false o = refl

known_judged : (v : Version) (d : Definition) (parts : UnitParts) (o : Option Kind) → error_of (unit_if_known v d parts o) ≡ first_kind (known_kinds v d parts o)
known_judged v d parts None = refl
known_judged v d parts (Some kind) = unit_of_judged v d parts kind

parts_judged : (v : Version) (d : Definition) (o : Option UnitParts) → error_of (unit_line_at v d o) ≡ first_kind (parts_kinds v d o)
unfolding unit_at
parts_judged v d None = refl
parts_judged v d (Some parts) = error-or (nat_le 256 (length d.units)) (nat_lt 512 (length d.wires + length parts.outputs)) wrong.Limit _ _ (known_judged v d parts (kind_named parts.unit))

default_judged : (d : Definition) (name : List ℕ) (v : Option ℤ) → error_of (default_at d name v) ≡ cond (not (is_some v)) (Some wrong.Number) None
default_judged d name (Some v) = refl
default_judged d name None = refl

-- a control's line whose fields are three, the first of them its word
three : (v : Version) (d : Definition) (empty : Bool) (name value : List ℕ) → error_of (cond empty (Err wrong.Line) (control_at v d name value))
    ≡ first_kind ((not (not empty && length d.units == 0), wrong.Line) ∷ (nat_le (most_controls v) (length d.controls), wrong.Limit) ∷ (not (is_name v name), wrong.Name) ∷ (is_given d name, wrong.Twice) ∷ (not (is_literal value), wrong.Number) ∷ [])
unfolding control_at
three v d true name value = refl
three v d false name value =
    error-cond (not (length d.units == 0)) wrong.Line _ _
    (error-cond (nat_le (most_controls v) (length d.controls)) wrong.Limit _ _
    (error-cond (not (is_name v name)) wrong.Name _ _
    (error-cond (is_known d name) wrong.Twice _ _ (default_judged d name (literal value)) ∙ ap (λ (b : Bool). cond b (Some wrong.Twice) (cond (not (is_literal value)) (Some wrong.Number) None)) (known_given d name))))

misshaped : (b : Bool) → error_of {A = Definition} (cond b (Err wrong.Line) (Err wrong.Line)) ≡ Some wrong.Line
misshaped true = refl
misshaped false = refl

other_length : (m n : ℕ) → n < m → (m == n) ≡ false
other_length m n h = false_from_ne_true (m == n) (λ t. let z : m ≡ n = eqb-true m n t in omega arith)

no_shape : (t e u : Bool) (o : Option DefKind) → t ≡ false → cond (not (t && e && u)) (Some wrong.Line) o ≡ Some wrong.Line
no_shape true e u o h = cc
no_shape false e u o h = refl

control_judged : (v : Version) (d : Definition) (fields : List (List ℕ)) → error_of (cond (list_any (λ f. length f == 0) fields) (Err wrong.Line) (control_line_at v d fields)) ≡ first_kind (control_kinds v d fields)
control_judged v d [] = refl
control_judged v d (a ∷ []) = misshaped (list_any (λ f. length f == 0) (a ∷ []))
control_judged v d (a ∷ b ∷ []) = misshaped (list_any (λ f. length f == 0) (a ∷ b ∷ []))
control_judged v d (a ∷ name ∷ value ∷ []) = three v d (list_any (λ f. length f == 0) (a ∷ name ∷ value ∷ [])) name value
control_judged v d (a ∷ b ∷ x ∷ y ∷ more) =
    let fields : List (List ℕ) = a ∷ b ∷ x ∷ y ∷ more in
    let empty : Bool = list_any (λ f. length f == 0) fields in
    misshaped empty ∙ sym (no_shape (length fields == 3) (not empty) (length d.units == 0) _ (other_length (length fields) 3 (omega arith)))

-- literals, from the left
default_of_judged : (o : Option ℤ) → error_of (default_of o) ≡ cond (not (is_some o)) (Some wrong.Number) None
default_of_judged (Some v) = refl
default_of_judged None = refl

first_or : (b : Bool) (k : DefKind) (o : Option DefKind) → or_first (cond b (Some k) None) o ≡ cond b (Some k) o
first_or true k o = refl
first_or false k o = refl

defaults_judged : (fields : List (List ℕ)) → error_of (defaults_at fields) ≡ first_kind (literals_kinds fields)
unfolding defaults_at
defaults_judged [] = refl
defaults_judged (field ∷ fields) =
    let rest = first_kind (literals_kinds fields) in
    error-bind (default_of (literal field)) _ rest
    (λ x. error-bind (defaults_at fields) (λ others. Ok (x ∷ others)) None (λ others. refl) ∙ or_none (error_of (defaults_at fields)) ∙ defaults_judged fields)
    ∙ ap (λ (o : Option DefKind). or_first o rest) (default_of_judged (literal field)) ∙ first_or (not (is_literal field)) wrong.Number rest

array_with_judged : (d : Definition) (name : List ℕ) (literals : List (List ℕ)) → error_of (array_with d name literals) ≡ first_kind (literals_kinds literals)
array_with_judged d name literals =
    error-bind (defaults_at literals) (λ defaults. Ok (with_array d name defaults)) None (λ defaults. refl) ∙ or_none (error_of (defaults_at literals)) ∙ defaults_judged literals

-- an array's line of three fields or more, the first of them its word
shaped : (v : Version) (d : Definition) (empty equals : Bool) (name : List ℕ) (literals : List (List ℕ)) → error_of (cond empty (Err wrong.Line) (cond equals (Err wrong.Line) (array_at v d name literals)))
    ≡ first_kind ((not (not empty && not equals && length d.units == 0), wrong.Line) ∷ (nat_lt 64 (length literals), wrong.Limit) ∷ (nat_lt (most_controls v) (length d.controls + length literals), wrong.Limit) ∷ (not (is_name v name), wrong.Name)
    ∷ (is_given d name, wrong.Twice) ∷ literals_kinds literals)
unfolding array_at
shaped v d true equals name literals = refl
shaped v d false true name literals = refl
shaped v d false false name literals =
    error-cond (not (length d.units == 0)) wrong.Line _ _
    (error-or (nat_lt 64 (length literals)) (nat_lt (most_controls v) (length d.controls + length literals)) wrong.Limit _ _
    (error-cond (not (is_name v name)) wrong.Name _ _
    (error-cond (is_known d name) wrong.Twice _ _ (array_with_judged d name literals) ∙ ap (λ (b : Bool). cond b (Some wrong.Twice) (first_kind (literals_kinds literals))) (known_given d name))))

an_array : (t e q u : Bool) (o : Option DefKind) → t ≡ true → cond (not (t && e && q && u)) (Some wrong.Line) o ≡ cond (not (e && q && u)) (Some wrong.Line) o
an_array true e q u o h = refl
an_array false e q u o h = cc

array_judged : (v : Version) (d : Definition) (fields : List (List ℕ)) → error_of (cond (list_any (λ f. length f == 0) fields) (Err wrong.Line) (array_line_at v d fields)) ≡ first_kind (array_kinds v d fields)
array_judged v d [] = refl
array_judged v d (a ∷ []) = misshaped (list_any (λ f. length f == 0) (a ∷ []))
array_judged v d (a ∷ b ∷ []) = misshaped (list_any (λ f. length f == 0) (a ∷ b ∷ []))
array_judged v d (a ∷ name ∷ value ∷ values) =
    let fields : List (List ℕ) = a ∷ name ∷ value ∷ values in
    let some : (length (value ∷ values) == 0) ≡ false = other_length (length (value ∷ values)) 0 (omega arith) in
    ap (λ (t : Bool). error_of (cond (list_any (λ f. length f == 0) fields) (Err wrong.Line) (cond (t || bytes_eq name (codes "=")) (Err wrong.Line) (array_at v d name (value ∷ values))))) some
    ∙ shaped v d (list_any (λ f. length f == 0) fields) (bytes_eq name (codes "=")) name (value ∷ values)
    ∙ sym (an_array (nat_le 3 (length fields)) (not (list_any (λ f. length f == 0) fields)) (not (bytes_eq name (codes "="))) (length d.units == 0) _ (le-leb 3 (length fields) (omega arith)))

line_error : (v : Version) (d : Definition) (fields : List (List ℕ)) → error_of (line_at v d fields) ≡ first_kind (line_kinds v d fields)
unfolding line_at
line_error v d fields =
    let word = first_of fields in
    by_word (list_any (λ f. length f == 0) fields) (bytes_eq word (codes "control")) (is_array_word v word) (is_reserved v word) (control_line_at v d fields) (array_line_at v d fields) (unit_line_at v d (unit_parts fields))
    (control_kinds v d fields) (array_kinds v d fields) (parts_kinds v d (unit_parts fields)) (control_judged v d fields) (array_judged v d fields) (parts_judged v d (unit_parts fields))
  where
    by_word : (empty control array reserved : Bool) (c a u : Result Definition DefKind) (ck ak uk : Kinds) → error_of (cond empty (Err wrong.Line) c) ≡ first_kind ck → error_of (cond empty (Err wrong.Line) a) ≡ first_kind ak → error_of u ≡ first_kind uk
        → error_of (cond empty (Err wrong.Line) (cond control c (cond array a (cond reserved (Err wrong.Line) u)))) ≡ first_kind (cond control ck (cond array ak ((empty || reserved, wrong.Line) ∷ uk)))
    by_word true true array reserved c a u ck ak uk h j i = h
    by_word false true array reserved c a u ck ak uk h j i = h
    by_word true false true reserved c a u ck ak uk h j i = j
    by_word false false true reserved c a u ck ak uk h j i = j
    by_word true false false reserved c a u ck ak uk h j i = refl
    by_word false false false true c a u ck ak uk h j i = refl
    by_word false false false false c a u ck ak uk h j i = i

is_error : {A : Type 0} (r : Result A DefKind) (k : DefKind) → error_of r ≡ Some k → r ≡ Err k
is_error (Ok x) k h = cc
is_error (Err j) k h = let same : j ≡ k = cc in ap (λ (e : DefKind). Err e) same

pub line_judged : (v : Version) (d : Definition) (fields : List (List ℕ)) (kind : DefKind) → (line_at v d fields ≡ Err kind) ↔ (first_kind (line_kinds v d fields) ≡ Some kind)
line_judged v d fields kind = (λ h. sym (line_error v d fields) ∙ ap error_of h, λ h. is_error (line_at v d fields) kind (line_error v d fields ∙ h))

-- the fault of the line `def NAME`, if there is one
abbrev fault_in : Result Definition DefFault → Option DefFault
fault_in (Ok d) = None
fault_in (Err f) = Some f

abbrev in_two : Option DefKind → Option DefFault
in_two (Some k) = Some (fault 2 k)
in_two None = None

two_fields : (v : Version) (word name : List ℕ) → fault_in (named_at v word name) ≡ in_two (first_kind (def_kinds v (word ∷ name ∷ [])))
two_fields v word name = step (bytes_eq word (codes "def")) (length word == 0) (length name == 0) (is_name v name) (λ t. ap (λ (w : List ℕ). length w == 0) ((bytes_eq-Decides word (codes "def")).0 t))
  where
    step : (is empty none name_is : Bool) → (is ≡ true → empty ≡ false)
        → fault_in (cond (not is || none) (Err (fault 2 wrong.Line)) (cond (not name_is) (Err (fault 2 wrong.Name)) (Ok (named_only name)))) ≡ in_two (cond (not (not (empty || (none || false)) && is)) (Some wrong.Line) (cond (not name_is) (Some wrong.Name) None))
    step true true none name_is h = let e = h refl in cc
    step true false true name_is h = refl
    step true false false true h = refl
    step true false false false h = refl
    step false true none name_is h = refl
    step false false true name_is h = refl
    step false false false name_is h = refl

def_error : (v : Version) (fields : List (List ℕ)) → fault_in (def_at v fields) ≡ in_two (first_kind (def_kinds v fields))
def_error v [] = refl
def_error v (a ∷ []) = refl
def_error v (word ∷ name ∷ []) = two_fields v word name
def_error v (a ∷ b ∷ x ∷ more) =
    let fields : List (List ℕ) = a ∷ b ∷ x ∷ more in
    sym (no_two (length fields == 2) (not (list_any (λ f. length f == 0) fields)) (bytes_eq a (codes "def")) _ (other_length (length fields) 2 (omega arith)))
  where
    no_two : (t e u : Bool) (o : Option DefKind) → t ≡ false → in_two (cond (not (t && e && u)) (Some wrong.Line) o) ≡ Some (fault 2 wrong.Line)
    no_two true e u o h = cc
    no_two false e u o h = refl

same_two : (o : Option DefKind) (k : DefKind) → in_two o ≡ Some (fault 2 k) → o ≡ Some k
same_two None k h = cc
same_two (Some j) k h =
    let same : fault 2 j ≡ fault 2 k = cc in
    ap (λ (f : DefFault). Some f.kind) same

is_fault : (r : Result Definition DefFault) (f : DefFault) → fault_in r ≡ Some f → r ≡ Err f
is_fault (Ok x) f h = cc
is_fault (Err g) f h = let same : g ≡ f = cc in ap (λ (e : DefFault). Err e) same

pub def_judged : (v : Version) (fields : List (List ℕ)) (kind : DefKind) → (def_at v fields ≡ Err (fault 2 kind)) ↔ (first_kind (def_kinds v fields) ≡ Some kind)
def_judged v fields kind = (λ h. same_two (first_kind (def_kinds v fields)) kind (sym (def_error v fields) ∙ ap fault_in h), λ h. is_fault (def_at v fields) (fault 2 kind) (def_error v fields ∙ ap in_two h))
