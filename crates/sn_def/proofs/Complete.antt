-- What the lines of a text say is read.
use Rattle.std.proofs.Common.{◌≡◌, ℕ, ℤ, pos, zero, suc, ◌+◌, ◌<◌, ◌≤◌, ◌≤ℤ◌, ◌==◌, ◌||◌, Bool, true, false, cond, int_le, nat_le, nat_lt, List, [], ◌∷◌, ◌++◌, length, map, take, drop, flat_map, slice_get, position, Option, Some, None, Result, Ok, Err, refl, sym, ap, subst, ◌∙◌, arith, codes, append_assoc, append-nil, length-append, le-leb, le-ltb}
use Rattle.std.specs.Str.{bytes_eq}
use Rattle.std.specs.List.{list_all, list_any, join_with_byte}
use Rattle.std.proofs.lemmas.Int.{ints}
use Rattle.std.proofs.lemmas.Bool.{and_parts, and_from, or_parts, or_from, both_ways, false_from_ne_true, eqb-true, lt-leb}
use Rattle.std.proofs.lemmas.Slice.Eq.{bytes_eq-Decides}
use Rattle.std.proofs.lemmas.List.{take_at, drop_at, map-append}
use Rattle.std.proofs.lemmas.List.Folds.{list_all-append}
use Rattle.sn_fixed.specs.Literal.{literal}
use Rattle.sn_fixed.specs.Laws.{HasLiteralBytes}
use Rattle.sn_def.specs.declared.fault.DefKind.{DefKind}
use Rattle.sn_def.specs.declared.fault.DefKind.TheVariants as wrong
use Rattle.sn_def.specs.declared.kind.Kind.{Kind}
use Rattle.sn_def.specs.declared.kind.Kind.TheVariants as kinds
use Rattle.sn_def.specs.declared.table.Mark.{Mark}
use Rattle.sn_def.specs.declared.table.Mark.TheVariants.{Signal, Index, Constant, Longest}
use Rattle.sn_def.specs.declared.unit.Input.{Input}
use Rattle.sn_def.specs.declared.unit.Input.TheVariants.{Literal, Control, Wire}
use Rattle.sn_def.specs.declared.unit.Unit.{Unit as UnitLine}
use Rattle.sn_def.specs.Units.{row_of, kind_named}
use Rattle.sn_def.specs.declared.arrays.Run.{Run}
use Rattle.sn_def.specs.declared.version.Version.{Version}
use Rattle.sn_def.specs.declared.version.Version.TheVariants as versions
use Rattle.sn_def.specs.Definition.{Definition, Parameter, place_of, or_else, as_control, as_wire, named, named_only, control_names, elements, with_control, with_array, with_wires, with_unit, unit_line, whole}
use Rattle.sn_def.specs.Versions.{title, version_of, most_controls, has_arrays}
use Rattle.sn_def.specs.Reading.{pieces, is_name, is_array_word, is_reserved, first_of, control_at, defaults_at, array_at, mark_at, literal_at, name_at, input_at, inputs_at, wires_at, UnitParts, parts_from, parts_at, counts_fit, unit_of, unit_at, unit_line_at, unit_parts, control_line_at, array_line_at, line_at, body_at, def_and_body, after_title, versioned_at, title_at, text_at, IsWritten}
use Rattle.sn_def.specs.WellFormed.{IsAllowed, AreAllowed, UnitFits, UnitsFit}
use Rattle.sn_def.specs.Grammar.{is_given_name, ControlLine, control_fields, controls_of, arrays_of, output_fields, unit_fields, Every, Each, MayHave, IsValue, IsControlLine, IsInput, IsUnit, AreDistinct, names_of, DefinitionText}
use Rattle.sn_def.proofs.ElementNames.{names_in, length-elements, elements_given, name_given, names_given, AreNames}
use Rattle.sn_def.proofs.Distinct.{absent_parts, distinct-left, distinct-right, distinct_before, get_place, get_front, get_below}
use Rattle.sn_def.proofs.Lines.{ending, control_bytes, unit_bytes}
use Rattle.sn_def.proofs.Forming.{kind_has_name}
use Rattle.sn_def.proofs.Sound.{Grows, with_line, line_arrays}
use Rattle.sn_def.proofs.Plain.{IsField, AreFields, AllAbove, cut, cut_fields, fields_append, none_empty, whole_line, name_field, name_parts, name_no_literal, literal_field, name_no_equals, literal_no_equals, position_at, position_none}
use Rattle.sn_def.proofs.Whole.{whole_text, length-line, in_grammar}

abbrev pub Bytes : Type 0
Bytes = (text : List ℕ) → HasLiteralBytes text

-- a unit's name is a field, no word that begins lines, and not `=`
pub record UnitName (v : Version) (n : List ℕ) : Type 0 where
  pub plain : list_all (λ b. nat_lt 32 b) n ≡ true
  pub long : nat_le 1 (length n) ≡ true
  pub free : is_reserved v n ≡ false
  pub no_equals : bytes_eq n (codes "=") ≡ false

unit_name : (v : Version) (k : Kind) → UnitName v (row_of k).name
unfolding row_of
unit_name versions.One kinds.SinOsc = record { plain = refl; long = refl; free = refl; no_equals = refl }
unit_name versions.One _ = record { plain = refl; long = refl; free = refl; no_equals = refl }
unit_name versions.Two kinds.SinOsc = record { plain = refl; long = refl; free = refl; no_equals = refl }
unit_name versions.Two _ = record { plain = refl; long = refl; free = refl; no_equals = refl }

known_name : (v : Version) (n : List ℕ) (k : Kind) → kind_named n ≡ Some k → UnitName v n
known_name v n k h = subst (UnitName v) (kind_has_name n k h) (unit_name v k)

unit_name_field : (v : Version) (n : List ℕ) → UnitName v n → IsField n
unit_name_field v [] h = let e = h.long in cc
unit_name_field v (b ∷ bs) h = record { some = λ z. omega arith; plain = h.plain }

-- the names that are found
find_control : (d : Definition) (n : List ℕ) (k : ℕ) → AreDistinct (names_of d) → slice_get (control_names d) k ≡ Some n → named d n ≡ Some (Control k)
unfolding named
find_control d n k h is = ap (λ (o : Option ℕ). or_else (as_control o) (as_wire (place_of n d.wires))) (get_place n (control_names d) k (distinct-left (control_names d) d.wires h) is)

find_wire : (d : Definition) (n : List ℕ) (k : ℕ) → AreDistinct (names_of d) → slice_get d.wires k ≡ Some n → named d n ≡ Some (Wire k)
unfolding named
find_wire d n k h is =
    ap (λ (o : Option ℕ). or_else (as_control o) (as_wire (place_of n d.wires))) (distinct_before (control_names d) d.wires n k h is)
    ∙ ap as_wire (get_place n d.wires k (distinct-right (control_names d) d.wires h) is)

find_nothing : (d : Definition) (n : List ℕ) → place_of n (names_of d) ≡ None → named d n ≡ None
unfolding named
find_nothing d n h =
    let p = absent_parts n (control_names d) d.wires h in
    ap (λ (o : Option ℕ). or_else (as_control o) (as_wire (place_of n d.wires))) p.0 ∙ ap as_wire p.1

-- a name of the list is a name
name_there : (ns : List (List ℕ)) (k : ℕ) (n : List ℕ) → list_all is_given_name ns ≡ true → slice_get ns k ≡ Some n → is_given_name n ≡ true
name_there [] k n h i = cc
name_there (m ∷ ms) zero n h i = let same : m ≡ n = cc in subst (λ (x : List ℕ). is_given_name x ≡ true) same (and_parts (is_given_name m) (list_all is_given_name ms) h).0
name_there (m ∷ ms) (suc k) n h i = name_there ms k n (and_parts (is_given_name m) (list_all is_given_name ms) h).1 i

above : (a b : ℤ) → a ≤ℤ b → int_le a b ≡ true
above a b h = grind (arith, ints)

value_back : (mark : Mark) (c w : ℕ) (v : ℤ) → IsAllowed mark c w (Literal v) → literal_at mark v ≡ Ok (Literal v)
value_back Signal c w v h = refl
value_back Index c w v h = refl
value_back Constant c w v h = refl
value_back Longest c w v h = rw (above (pos 0) v h.low, above v (pos 60000) h.high) refl

name_back : (mark : Mark) (c w : ℕ) (x : Input) → IsAllowed mark c w x → ((v : ℤ) → x ≡ Literal v → ⊥) → name_at mark (Some x) ≡ Ok x
name_back mark c w (Literal v) h other = absurd (other v refl)
name_back Signal c w (Control k) h other = refl
name_back Signal c w (Wire k) h other = refl
name_back Index c w (Control k) h other = refl
name_back Index c w (Wire k) h other = absurd h
name_back Constant c w (Control k) h other = absurd h
name_back Constant c w (Wire k) h other = absurd h
name_back Longest c w (Control k) h other = absurd h
name_back Longest c w (Wire k) h other = absurd h

by_name : (d : Definition) (mark : Mark) (field : List ℕ) (x : Input) → literal field ≡ None → named d field ≡ Some x → name_at mark (Some x) ≡ Ok x → input_at d mark field ≡ Ok x
unfolding input_at
by_name d mark field x other is h = rw (other, is) h

by_value : (d : Definition) (mark : Mark) (field : List ℕ) (v : ℤ) → literal field ≡ Some v → literal_at mark v ≡ Ok (Literal v) → input_at d mark field ≡ Ok (Literal v)
unfolding input_at
by_value d mark field v is h = rw is h

names_left : (d : Definition) → list_all is_given_name (names_of d) ≡ true → list_all is_given_name (control_names d) ≡ true
names_left d h = (and_parts (list_all is_given_name (control_names d)) (list_all is_given_name d.wires) (sym (list_all-append is_given_name (control_names d) d.wires) ∙ h)).0

names_right : (d : Definition) → list_all is_given_name (names_of d) ≡ true → list_all is_given_name d.wires ≡ true
names_right d h = (and_parts (list_all is_given_name (control_names d)) (list_all is_given_name d.wires) (sym (list_all-append is_given_name (control_names d) d.wires) ∙ h)).1

input_back : (bytes : Bytes) (d : Definition) (mark : Mark) (c w : ℕ) (field : List ℕ) (x : Input) → AreNames (names_of d) → IsInput d field x → IsAllowed mark c w x → input_at d mark field ≡ Ok x
input_back bytes d mark c w field (Literal v) ok is h = by_value d mark field v is (value_back mark c w v h)
input_back bytes d mark c w field (Control k) ok is h =
    by_name d mark field (Control k) (name_no_literal field (bytes field) (name_there (control_names d) k field (names_left d ok.names) is)) (find_control d field k ok.distinct is) (name_back mark c w (Control k) h (λ v e. cc))
input_back bytes d mark c w field (Wire k) ok is h =
    by_name d mark field (Wire k) (name_no_literal field (bytes field) (name_there d.wires k field (names_right d ok.names) is)) (find_wire d field k ok.distinct is) (name_back mark c w (Wire k) h (λ v e. cc))

inputs_back : (bytes : Bytes) (d : Definition) (marks : List Mark) (c w i : ℕ) (fields : List (List ℕ)) (xs : List Input) → AreNames (names_of d) → Each (IsInput d) fields xs → AreAllowed marks c w i xs → inputs_at d marks i fields ≡ Ok xs
unfolding inputs_at
inputs_back bytes d marks c w i [] [] ok h a = refl
inputs_back bytes d marks c w i [] (x ∷ xs) ok h a = absurd h
inputs_back bytes d marks c w i (f ∷ fs) [] ok h a = absurd h
inputs_back bytes d marks c w i (f ∷ fs) (x ∷ xs) ok h a = rw (input_back bytes d (mark_at marks i) c w f x ok h.0 a.0, inputs_back bytes d marks c w (i + 1) fs xs ok h.1 a.1) refl

-- the fields of inputs
input_field : (bytes : Bytes) (d : Definition) (f : List ℕ) (x : Input) → list_all is_given_name (names_of d) ≡ true → IsInput d f x → IsField f × (bytes_eq f (codes "=") ≡ false)
input_field bytes d f (Literal v) ok is = (literal_field f v (bytes f) is, literal_no_equals f v (bytes f) is)
input_field bytes d f (Control k) ok is = let n = name_there (control_names d) k f (names_left d ok) is in (name_field f n, name_no_equals f n)
input_field bytes d f (Wire k) ok is = let n = name_there d.wires k f (names_right d ok) is in (name_field f n, name_no_equals f n)

input_fields : (bytes : Bytes) (d : Definition) (fs : List (List ℕ)) (xs : List Input) → list_all is_given_name (names_of d) ≡ true → Each (IsInput d) fs xs → AreFields fs × (list_any (λ f. bytes_eq f (codes "=")) fs ≡ false)
input_fields bytes d [] [] ok h = (tt, refl)
input_fields bytes d [] (x ∷ xs) ok h = absurd h
input_fields bytes d (f ∷ fs) [] ok h = absurd h
input_fields bytes d (f ∷ fs) (x ∷ xs) ok h =
    let one = input_field bytes d f x ok h.0 in
    let more = input_fields bytes d fs xs ok h.1 in
    ((one.0, more.0), or_from (bytes_eq f (codes "=")) (list_any (λ g. bytes_eq g (codes "=")) fs) one.1 more.1)

name_fields : (ns : List (List ℕ)) → list_all is_given_name ns ≡ true → AreFields ns × (list_any (λ f. bytes_eq f (codes "=")) ns ≡ false)
name_fields [] h = (tt, refl)
name_fields (n ∷ ns) h =
    let p = and_parts (is_given_name n) (list_all is_given_name ns) h in
    let more = name_fields ns p.1 in
    ((name_field n p.0, more.0), or_from (bytes_eq n (codes "=")) (list_any (λ g. bytes_eq g (codes "=")) ns) (name_no_equals n p.0) more.1)

equals_field : IsField (codes "=")
equals_field = record { some = λ z. omega arith; plain = refl }

-- what is known of the parts of a unit line
pub record GoodParts (v : Version) (p : UnitParts) : Type 0 where
  pub outputs : list_all (is_name v) p.outputs ≡ true
  pub unit : UnitName v p.unit
  pub inputs : AreFields p.inputs
  pub no_equals : list_any (λ f. bytes_eq f (codes "=")) p.inputs ≡ false

output_fields_fields : (ns : List (List ℕ)) → list_all is_given_name ns ≡ true → AreFields (output_fields ns)
output_fields_fields [] h = tt
output_fields_fields (n ∷ ns) h = fields_append (n ∷ ns) (codes "=" ∷ []) (name_fields (n ∷ ns) h).0 (equals_field, tt)

unit_are_fields : (v : Version) (p : UnitParts) → GoodParts v p → AreFields (unit_fields p)
unit_are_fields v p h = fields_append (output_fields p.outputs) (p.unit ∷ p.inputs) (output_fields_fields p.outputs (names_given v p.outputs h.outputs)) (unit_name_field v p.unit h.unit, h.inputs)

first_free : (v : Version) (ns : List (List ℕ)) (unit : List ℕ) (inputs : List (List ℕ)) → list_all (is_name v) ns ≡ true → UnitName v unit → is_reserved v (first_of (output_fields ns ++ unit ∷ inputs)) ≡ false
first_free v [] unit inputs h u = u.free
first_free v (n ∷ ns) unit inputs h u = (name_parts v n (and_parts (is_name v n) (list_all (is_name v) ns) h).0).free

parts_back : (v : Version) (outputs : List (List ℕ)) (unit : List ℕ) (inputs : List (List ℕ)) → list_all is_given_name outputs ≡ true → UnitName v unit → list_any (λ f. bytes_eq f (codes "=")) inputs ≡ false
    → unit_parts (output_fields outputs ++ unit ∷ inputs) ≡ Some (record { outputs = outputs; unit = unit; inputs = inputs })
unfolding unit_parts
parts_back v [] unit inputs h u other =
    ap (parts_at (unit ∷ inputs)) (position_none (λ f. bytes_eq f (codes "=")) (unit ∷ inputs) (or_from (bytes_eq unit (codes "=")) (list_any (λ f. bytes_eq f (codes "=")) inputs) u.no_equals other))
parts_back v (n ∷ ns) unit inputs h u other =
    let ms : List (List ℕ) = n ∷ ns in
    let after : List (List ℕ) = unit ∷ inputs in
    let split : (ms ++ codes "=" ∷ []) ++ after ≡ ms ++ codes "=" ∷ after = append_assoc ms (codes "=" ∷ []) after in
    let some : (length ms == 0) ≡ false = false_from_ne_true (length ms == 0) (λ e. let z : length ms ≡ 0 = eqb-true (length ms) 0 e in omega arith) in
    let front : take (length ms) (ms ++ codes "=" ∷ after) ≡ ms = take_at ms (codes "=" ∷ after) (length ms) refl in
    let back : drop (length ms + 1) (ms ++ codes "=" ∷ after) ≡ after =
    ap (λ (t : List (List ℕ)). drop (length ms + 1) t) (sym split) ∙ drop_at (ms ++ codes "=" ∷ []) after (length ms + 1) (length-append ms (codes "=" ∷ [])) in
    ap (λ (fs : List (List ℕ)). parts_at fs (position (λ f. bytes_eq f (codes "=")) fs)) split
    ∙ ap (parts_at (ms ++ codes "=" ∷ after)) (position_at (λ f. bytes_eq f (codes "=")) ms (codes "=") after (name_fields ms h).1 refl)
    ∙ rw some (ap (λ (t : List (List ℕ)). parts_from t (drop (length ms + 1) (ms ++ codes "=" ∷ after))) front ∙ ap (parts_from ms) back)

-- the lines that are read
wires_back : (d : Definition) (ns : List (List ℕ)) → AreDistinct (control_names d ++ (d.wires ++ ns)) → wires_at d ns ≡ Ok (with_wires d ns)
unfolding wires_at
wires_back d [] h = let f : List (List ℕ) → Result Definition DefKind = λ ws. Ok (record d { wires = ws }) in ap f (sym (append-nil d.wires))
wires_back d (n ∷ ns) h =
    let apart : AreDistinct (names_of d ++ n ∷ ns) = subst AreDistinct (sym (append_assoc (control_names d) d.wires (n ∷ ns))) h in
    let fresh : named d n ≡ None = find_nothing d n (distinct_before (names_of d) (n ∷ ns) n 0 apart refl) in
    let more : AreDistinct (control_names d ++ ((d.wires ++ n ∷ []) ++ ns)) = subst (λ (ws : List (List ℕ)). AreDistinct (control_names d ++ ws)) (sym (append_assoc d.wires (n ∷ []) ns)) h in
    let f : List (List ℕ) → Result Definition DefKind = λ ws. Ok (record d { wires = ws }) in
    rw fresh (wires_back (with_wires d (n ∷ [])) ns more ∙ ap f (append_assoc d.wires (n ∷ []) ns))

counts_back : (c : Kind) (inputs outputs : ℕ) → length (row_of c).inputs + cond ((row_of c).signals == 0) 0 1 ≤ inputs → inputs ≤ length (row_of c).inputs + (row_of c).signals → (row_of c).least ≤ outputs → outputs ≤ (row_of c).most
    → counts_fit (row_of c) inputs outputs ≡ true
counts_back c inputs outputs a b l m =
    and_from _ (nat_le outputs (row_of c).most)
    (and_from _ (nat_le (row_of c).least outputs)
    (and_from (nat_le (length (row_of c).inputs + cond ((row_of c).signals == 0) 0 1) inputs) (nat_le inputs (length (row_of c).inputs + (row_of c).signals))
    (le-leb (length (row_of c).inputs + cond ((row_of c).signals == 0) 0 1) inputs a) (le-leb inputs (length (row_of c).inputs + (row_of c).signals) b))
    (le-leb (row_of c).least outputs l))
    (le-leb outputs (row_of c).most m)

same_length : (R : List ℕ → Input → Type 0) (fs : List (List ℕ)) (xs : List Input) → Each R fs xs → length fs ≡ length xs
same_length R [] [] h = refl
same_length R [] (x ∷ xs) h = absurd h
same_length R (f ∷ fs) [] h = absurd h
same_length R (f ∷ fs) (x ∷ xs) h = ap suc (same_length R fs xs h.1)

-- the definition after a unit line
abbrev pub after_unit : Definition → UnitParts → UnitLine → Definition
after_unit d p u = with_unit (with_wires d p.outputs) u.kind u.inputs (length p.outputs)

unit_of_back : (bytes : Bytes) (v : Version) (d : Definition) (p : UnitParts) (u : UnitLine) → AreNames (names_of d) → list_all (is_name v) p.outputs ≡ true → AreDistinct (control_names d ++ (d.wires ++ p.outputs)) → IsUnit d p u
    → UnitFits (length d.controls) (length d.wires) u → unit_of v d p u.kind ≡ Ok (after_unit d p u)
unfolding unit_of
unit_of_back bytes v d p u ok named apart is fits =
    let many : length p.inputs ≡ length u.inputs = same_length (IsInput d) p.inputs u.inputs is.inputs in
    let counts : counts_fit (row_of u.kind) (length p.inputs) (length p.outputs) ≡ true =
    ap (λ (n : ℕ). counts_fit (row_of u.kind) n (length p.outputs)) many ∙ ap (λ (n : ℕ). counts_fit (row_of u.kind) (length u.inputs) n) is.outputs
    ∙ counts_back u.kind (length u.inputs) u.outputs fits.fewest_inputs fits.most_inputs fits.fewest_outputs fits.most_outputs in
    let read : inputs_at d (row_of u.kind).inputs 0 p.inputs ≡ Ok u.inputs = inputs_back bytes d (row_of u.kind).inputs (length d.controls) (length d.wires) 0 p.inputs u.inputs ok is.inputs fits.inputs in
    rw (counts, named, wires_back d p.outputs apart, read) refl

unit_at_back : (bytes : Bytes) (v : Version) (d : Definition) (p : UnitParts) (u : UnitLine) → length d.units < 256 → length d.wires + length p.outputs ≤ 512 → AreNames (names_of d) → list_all (is_name v) p.outputs ≡ true
    → AreDistinct (control_names d ++ (d.wires ++ p.outputs)) → IsUnit d p u → UnitFits (length d.controls) (length d.wires) u → unit_at v d p ≡ Ok (after_unit d p u)
unfolding unit_at
unit_at_back bytes v d p u room few ok named apart is fits =
    rw (lt-leb 256 (length d.units) room, le-ltb 512 (length d.wires + length p.outputs) few, is.kind) (unit_of_back bytes v d p u ok named apart is fits)

-- a word that begins no other line begins none of controls
no_word : (v : Version) (w : List ℕ) → is_reserved v w ≡ false → (bytes_eq w (codes "control") ≡ false) × (is_array_word v w ≡ false)
no_word v w h =
    let a = or_parts (bytes_eq w (codes "snova") || bytes_eq w (codes "def") || bytes_eq w (codes "control") || bytes_eq w (codes "end")) (is_array_word v w) h in
    let b = or_parts (bytes_eq w (codes "snova") || bytes_eq w (codes "def") || bytes_eq w (codes "control")) (bytes_eq w (codes "end")) a.0 in
    ((or_parts (bytes_eq w (codes "snova") || bytes_eq w (codes "def")) (bytes_eq w (codes "control")) b.0).1, a.1)

none_of : {X : Type 0} (a b c g : Bool) (x y z u r w : X) → a ≡ false → b ≡ false → c ≡ false → g ≡ false → r ≡ w → cond a x (cond b y (cond c z (cond g u r))) ≡ w
none_of a b c g x y z u r w h i j l k = rw (h, i, j, l) k

line_back : (v : Version) (d e : Definition) (p : UnitParts) → GoodParts v p → unit_at v d p ≡ Ok e → line_at v d (unit_fields p) ≡ Ok e
unfolding line_at
line_back v d e p good h =
    let fields = unit_fields p in
    let free = first_free v p.outputs p.unit p.inputs good.outputs good.unit in
    let word = no_word v (first_of fields) free in
    none_of (list_any (λ f. length f == 0) fields) (bytes_eq (first_of fields) (codes "control")) (is_array_word v (first_of fields)) (is_reserved v (first_of fields)) (Err wrong.Line) (control_line_at v d fields) (array_line_at v d fields) (Err wrong.Line)
    (unit_line_at v d (unit_parts fields)) (Ok e) (none_empty fields (unit_are_fields v p good)) word.0 word.1 free
    (ap (unit_line_at v d) (parts_back v p.outputs p.unit p.inputs (names_given v p.outputs good.outputs) good.unit good.no_equals) ∙ h)

-- a line that is read on
pub goes_on : (v : Version) (at : ℕ) (d n e : Definition) (text : List ℕ) (rest : List (List ℕ)) → 0 < length rest → bytes_eq text (codes "end") ≡ false → line_at v d (pieces 32 text) ≡ Ok n → body_at v (at + 1) n rest ≡ Ok e → body_at v at d (text ∷ rest) ≡ Ok e
unfolding body_at
goes_on v at d n e text rest some other h more =
    let long : (length rest == 0) ≡ false = false_from_ne_true (length rest == 0) (λ t. let z : length rest ≡ 0 = eqb-true (length rest) 0 t in omega arith) in
    rw (long, other, h) more

-- a line whose first field is not `end` is not `end`
not_end : (fs : List (List ℕ)) (text : List ℕ) → pieces 32 text ≡ fs → bytes_eq (first_of fs) (codes "end") ≡ false → bytes_eq text (codes "end") ≡ false
not_end fs text is free =
    false_from_ne_true (bytes_eq text (codes "end")) (λ t.
    let same : text ≡ codes "end" = (bytes_eq-Decides text (codes "end")).0 t in
    let first : first_of fs ≡ codes "end" = ap first_of (sym is ∙ ap (pieces 32) same) in
    both_ways (bytes_eq (first_of fs) (codes "end")) free (ap (λ (w : List ℕ). bytes_eq w (codes "end")) first))

free_no_end : (v : Version) (w : List ℕ) → is_reserved v w ≡ false → bytes_eq w (codes "end") ≡ false
free_no_end v w h =
    let a = or_parts (bytes_eq w (codes "snova") || bytes_eq w (codes "def") || bytes_eq w (codes "control") || bytes_eq w (codes "end")) (is_array_word v w) h in
    (or_parts (bytes_eq w (codes "snova") || bytes_eq w (codes "def") || bytes_eq w (codes "control")) (bytes_eq w (codes "end")) a.0).1

some_fields : (ns : List (List ℕ)) (unit : List ℕ) (inputs : List (List ℕ)) → 0 < length (output_fields ns ++ unit ∷ inputs)
some_fields ns unit inputs = omega (arith, length-append (output_fields ns) (unit ∷ inputs))

cut_some : (fs : List (List ℕ)) → AreFields fs → 0 < length fs → pieces 32 (join_with_byte 32 fs) ≡ fs
cut_some [] h some = absurd (omega arith)
cut_some (f ∷ fs) h some = cut_fields f fs h

unit_cut : (v : Version) (p : UnitParts) → GoodParts v p → pieces 32 (unit_bytes p) ≡ unit_fields p
unit_cut v p good = cut_some (unit_fields p) (unit_are_fields v p good) (some_fields p.outputs p.unit p.inputs)

unit_line_back : (bytes : Bytes) (v : Version) (at : ℕ) (d e : Definition) (p : UnitParts) (u : UnitLine) (rest : List (List ℕ)) → 0 < length rest → GoodParts v p → length d.units < 256 → length d.wires + length p.outputs ≤ 512 → AreNames (names_of d)
    → AreDistinct (control_names d ++ (d.wires ++ p.outputs)) → IsUnit d p u → UnitFits (length d.controls) (length d.wires) u → body_at v (at + 1) (after_unit d p u) rest ≡ Ok e → body_at v at d (unit_bytes p ∷ rest) ≡ Ok e
unit_line_back bytes v at d e p u rest some good room few ok apart is fits h =
    let fields : pieces 32 (unit_bytes p) ≡ unit_fields p = unit_cut v p good in
    let read : line_at v d (unit_fields p) ≡ Ok (after_unit d p u) = line_back v d (after_unit d p u) p good (unit_at_back bytes v d p u room few ok good.outputs apart is fits) in
    let free = free_no_end v (first_of (unit_fields p)) (first_free v p.outputs p.unit p.inputs good.outputs good.unit) in
    goes_on v at d (after_unit d p u) e (unit_bytes p) rest some (not_end (unit_fields p) (unit_bytes p) fields free) (ap (line_at v d) fields ∙ read) h

same_definition : (d e : Definition) → e.name ≡ d.name → e.controls ≡ d.controls → e.arrays ≡ d.arrays → e.units ≡ d.units → e.wires ≡ d.wires → d ≡ e
same_definition d e name controls arrays units wires =
    sym (ap (λ (n : List ℕ). whole n e.controls e.arrays e.units e.wires) name
    ∙ ap (λ (cs : List Parameter). whole d.name cs e.arrays e.units e.wires) controls
    ∙ ap (λ (rs : List Run). whole d.name d.controls rs e.units e.wires) arrays
    ∙ ap (λ (us : List UnitLine). whole d.name d.controls d.arrays us e.wires) units
    ∙ ap (λ (ws : List (List ℕ)). whole d.name d.controls d.arrays d.units ws) wires)

pub end_back : (v : Version) (at : ℕ) (d : Definition) → body_at v at d ending ≡ Ok d
unfolding body_at
end_back v at d = refl

ending_long : {X : Type 0} (f : X → List ℕ) (xs : List X) → 0 < length (map f xs ++ ending)
ending_long f xs = omega (arith, length-append (map f xs) ending)

-- the unit as the rest of a definition has it, and as it is so far
unit_so_far : (d e : Definition) (ws : List (List ℕ)) (fs : List (List ℕ)) (xs : List Input) (marks : List Mark) (i : ℕ) → e.controls ≡ d.controls → e.wires ≡ d.wires ++ ws → AreAllowed marks (length d.controls) (length d.wires) i xs
    → Each (IsInput e) fs xs → Each (IsInput d) fs xs
unit_so_far d e ws [] [] marks i cs w a h = tt
unit_so_far d e ws [] (x ∷ xs) marks i cs w a h = absurd h
unit_so_far d e ws (f ∷ fs) [] marks i cs w a h = absurd h
unit_so_far d e ws (f ∷ fs) (x ∷ xs) marks i cs w a h = (input_so_far (mark_at marks i) x a.0 h.0, unit_so_far d e ws fs xs marks (i + 1) cs w a.1 h.1)
  where
    wire_so_far : (k : ℕ) → k < length d.wires → slice_get e.wires k ≡ Some f → slice_get d.wires k ≡ Some f
    wire_so_far k lt h = get_below d.wires ws k f lt (subst (λ (names : List (List ℕ)). slice_get names k ≡ Some f) w h)

    input_so_far : (mark : Mark) (x : Input) → IsAllowed mark (length d.controls) (length d.wires) x → IsInput e f x → IsInput d f x
    input_so_far mark (Literal v) a h = h
    input_so_far mark (Control k) a h = subst (λ (cs : List Parameter). slice_get (map (λ c. c.name) cs) k ≡ Some f) cs h
    input_so_far Signal (Wire k) a h = wire_so_far k a h
    input_so_far Index (Wire k) a h = absurd a
    input_so_far Constant (Wire k) a h = absurd a
    input_so_far Longest (Wire k) a h = absurd a

names_so_far : (d e : Definition) (ws : List (List ℕ)) → e.controls ≡ d.controls → e.wires ≡ d.wires ++ ws → AreNames (names_of e) → AreNames (names_of d ++ ws)
names_so_far d e ws cs w h =
    subst AreNames (ap (λ (ps : List Parameter). map (λ c. c.name) ps ++ e.wires) cs ∙ ap (λ (names : List (List ℕ)). control_names d ++ names) w ∙ sym (append_assoc (control_names d) d.wires ws)) h

names_front : (xs ys : List (List ℕ)) → AreNames (xs ++ ys) → AreNames xs
names_front xs ys h = record {
  names = (and_parts (list_all is_given_name xs) (list_all is_given_name ys) (sym (list_all-append is_given_name xs ys) ∙ h.names)).0;
  distinct = distinct-left xs ys h.distinct;
}

-- the names of the next wires
next_named : (v : Version) (ws ns others : List (List ℕ)) (all : List (List ℕ)) → all ≡ ws ++ (ns ++ others) → list_all (is_name v) all ≡ true → list_all (is_name v) ns ≡ true
next_named v ws ns others all is h =
    let later = (and_parts (list_all (is_name v) ws) (list_all (is_name v) (ns ++ others)) (sym (list_all-append (is_name v) ws (ns ++ others)) ∙ ap (list_all (is_name v)) (sym is) ∙ h)).1 in
    (and_parts (list_all (is_name v) ns) (list_all (is_name v) others) (sym (list_all-append (is_name v) ns others) ∙ later)).0

units_back : (bytes : Bytes) (v : Version) (at : ℕ) (d e : Definition) (parts : List UnitParts) (us : List UnitLine) → Grows d e us (flat_map (λ p. p.outputs) parts) → Each (IsUnit e) parts us → UnitsFit (length d.controls) (length d.wires) us → AreNames (names_of e)
    → list_all (is_name v) e.wires ≡ true → length e.units ≤ 256 → length e.wires ≤ 512 → body_at v at d (map unit_bytes parts ++ ending) ≡ Ok e
units_back bytes v at d e [] [] g h fits ok named_wires few_units few_wires =
    let same : d ≡ e = same_definition d e g.name g.controls g.arrays (g.units ∙ append-nil d.units) (g.wires ∙ append-nil d.wires) in
    end_back v at d ∙ ap (λ (x : Definition). Ok x) same
units_back bytes v at d e [] (u ∷ us) g h fits ok named_wires few_units few_wires = absurd h
units_back bytes v at d e (p ∷ ps) [] g h fits ok named_wires few_units few_wires = absurd h
units_back bytes v at d e (p ∷ ps) (u ∷ us) g h fits ok named_wires few_units few_wires =
    let others : List (List ℕ) = flat_map (λ q. q.outputs) ps in
    let so_far : AreNames (names_of d ++ (p.outputs ++ others)) = names_so_far d e (p.outputs ++ others) g.controls g.wires ok in
    let regrouped : names_of d ++ (p.outputs ++ others) ≡ (control_names d ++ (d.wires ++ p.outputs)) ++ others =
    sym (append_assoc (names_of d) p.outputs others) ∙ ap (λ (ns : List (List ℕ)). ns ++ others) (append_assoc (control_names d) d.wires p.outputs) in
    let near : AreNames (control_names d ++ (d.wires ++ p.outputs)) = names_front (control_names d ++ (d.wires ++ p.outputs)) others (subst AreNames regrouped so_far) in
    let split : control_names d ++ (d.wires ++ p.outputs) ≡ names_of d ++ p.outputs = sym (append_assoc (control_names d) d.wires p.outputs) in
    let here : AreNames (names_of d) = names_front (names_of d) p.outputs (subst AreNames split near) in
    let named : list_all (is_name v) p.outputs ≡ true = next_named v d.wires p.outputs others e.wires g.wires named_wires in
    let inputs : Each (IsInput d) p.inputs u.inputs = unit_so_far d e (p.outputs ++ others) p.inputs u.inputs (row_of u.kind).inputs 0 g.controls g.wires fits.0.inputs h.0.inputs in
    let is : IsUnit d p u = record { kind = h.0.kind; outputs = h.0.outputs; inputs = inputs } in
    let fields = input_fields bytes d p.inputs u.inputs here.names inputs in
    let good : GoodParts v p = record { outputs = named; unit = known_name v p.unit u.kind h.0.kind; inputs = fields.0; no_equals = fields.1 } in
    let n : Definition = after_unit d p u in
    let same_unit : unit_line u.kind u.inputs (length p.outputs) ≡ u = ap (λ (m : ℕ). unit_line u.kind u.inputs m) h.0.outputs in
    let more : Grows n e us others = record {
      name = g.name;
      controls = g.controls;
      arrays = g.arrays;
      units = g.units ∙ sym (append_assoc d.units (u ∷ []) us) ∙ ap (λ (w : UnitLine). (d.units ++ w ∷ []) ++ us) (sym same_unit);
      wires = g.wires ∙ sym (append_assoc d.wires p.outputs others);
    } in
    let wires_after : length d.wires + u.outputs ≡ length (d.wires ++ p.outputs) = ap (λ (m : ℕ). length d.wires + m) (sym h.0.outputs) ∙ sym (length-append d.wires p.outputs) in
    let room : length d.units < 256 = omega (arith, ap length g.units, length-append d.units (u ∷ us)) in
    let few : length d.wires + length p.outputs ≤ 512 = omega (arith, ap length g.wires, length-append d.wires (p.outputs ++ others), length-append p.outputs others) in
    unit_line_back bytes v at d e p u (map unit_bytes ps ++ ending) (ending_long unit_bytes ps) good room few here near.distinct is fits.0
    (units_back bytes v (at + 1) n e ps us more h.1 (subst (λ (m : ℕ). UnitsFit (length d.controls) m us) wires_after fits.1) ok named_wires few_units few_wires)

-- control lines
control_at_back : (v : Version) (d : Definition) (name value : List ℕ) (x : ℤ) → length d.units ≡ 0 → length d.controls < most_controls v → is_name v name ≡ true → named d name ≡ None → literal value ≡ Some x → control_at v d name value ≡ Ok (with_control d name x)
unfolding control_at
control_at_back v d name value x none room good fresh is = rw (none, lt-leb (most_controls v) (length d.controls) room, good, fresh, is) refl

defaults_back : (fields : List (List ℕ)) (vs : List ℤ) → Each IsValue fields vs → defaults_at fields ≡ Ok vs
unfolding defaults_at
defaults_back [] [] h = refl
defaults_back [] (x ∷ vs) h = absurd h
defaults_back (f ∷ fs) [] h = absurd h
defaults_back (f ∷ fs) (x ∷ vs) h = rw (h.0, defaults_back fs vs h.1) refl

array_at_back : (v : Version) (d : Definition) (name : List ℕ) (literals : List (List ℕ)) (vs : List ℤ) → length d.units ≡ 0 → length literals ≤ 64 → length d.controls + length literals ≤ most_controls v → is_name v name ≡ true → named d name ≡ None → Each IsValue literals vs
    → array_at v d name literals ≡ Ok (with_array d name vs)
unfolding array_at
array_at_back v d name literals vs none few room good fresh are =
    rw (none, le-ltb 64 (length literals) few, le-ltb (most_controls v) (length d.controls + length literals) room, good, fresh, defaults_back literals vs are) refl

pub values_same : (fs : List (List ℕ)) (vs : List ℤ) → Each IsValue fs vs → length fs ≡ length vs
values_same [] [] h = refl
values_same [] (x ∷ vs) h = absurd h
values_same (f ∷ fs) [] h = absurd h
values_same (f ∷ fs) (x ∷ vs) h = ap suc (values_same fs vs h.1)

values_fields : (bytes : Bytes) (fs : List (List ℕ)) (vs : List ℤ) → Each IsValue fs vs → AreFields fs
values_fields bytes [] [] h = tt
values_fields bytes [] (x ∷ vs) h = absurd h
values_fields bytes (f ∷ fs) [] h = absurd h
values_fields bytes (f ∷ fs) (x ∷ vs) h = (literal_field f x (bytes f) h.0, values_fields bytes fs vs h.1)

word_field : (b : Bool) → IsField (cond b (codes "array") (codes "control"))
word_field true = record { some = λ z. omega arith; plain = refl }
word_field false = record { some = λ z. omega arith; plain = refl }

word_no_end : (b : Bool) → bytes_eq (cond b (codes "array") (codes "control")) (codes "end") ≡ false
word_no_end true = refl
word_no_end false = refl

control_are_fields : (bytes : Bytes) (v : Version) (c : ControlLine) → IsControlLine v c → AreFields (control_fields c)
control_are_fields bytes v c is = (word_field c.is_array, (name_field c.name (name_given v c.name is.name), values_fields bytes c.literals c.defaults is.values))

control_word : (v : Version) (d e : Definition) (name value : List ℕ) → AreFields (codes "control" ∷ name ∷ value ∷ []) → control_at v d name value ≡ Ok e → line_at v d (codes "control" ∷ name ∷ value ∷ []) ≡ Ok e
unfolding line_at
control_word v d e name value fields h = rw (none_empty (codes "control" ∷ name ∷ value ∷ []) fields) h

array_word : (v : Version) (d e : Definition) (name value : List ℕ) (values : List (List ℕ)) → has_arrays v ≡ true → AreFields (codes "array" ∷ name ∷ value ∷ values) → bytes_eq name (codes "=") ≡ false → array_at v d name (value ∷ values) ≡ Ok e
    → line_at v d (codes "array" ∷ name ∷ value ∷ values) ≡ Ok e
unfolding line_at
array_word v d e name value values arrays fields other h =
    let some : (length (value ∷ values) == 0) ≡ false = false_from_ne_true (length (value ∷ values) == 0) (λ t. let z : length (value ∷ values) ≡ 0 = eqb-true (length (value ∷ values)) 0 t in omega arith) in
    rw (none_empty (codes "array" ∷ name ∷ value ∷ values) fields, arrays, some, other) h

line-control : (d : Definition) (name value : List ℕ) (x : ℤ) → with_control d name x ≡ with_line d (record { is_array = false; name = name; literals = value ∷ []; defaults = x ∷ [] })
line-control d name value x = ap (λ (rs : List Run). record (with_control d name x) { arrays = rs }) (sym (append-nil d.arrays))

-- a line of controls that is read
controls_line : (bytes : Bytes) (v : Version) (d : Definition) (b : Bool) (name : List ℕ) (literals : List (List ℕ)) (vs : List ℤ) → length d.units ≡ 0 → length d.controls + length vs ≤ most_controls v → is_name v name ≡ true → named d name ≡ None
    → MayHave v b (length literals) → Each IsValue literals vs → AreFields (control_fields (record { is_array = b; name = name; literals = literals; defaults = vs }))
    → line_at v d (control_fields (record { is_array = b; name = name; literals = literals; defaults = vs })) ≡ Ok (with_line d (record { is_array = b; name = name; literals = literals; defaults = vs }))
controls_line bytes v d false name [] vs none room good fresh count are fields = absurd (omega (arith, count))
controls_line bytes v d false name (l ∷ m ∷ ls) vs none room good fresh count are fields = absurd (omega (arith, count))
controls_line bytes v d false name (l ∷ []) [] none room good fresh count are fields = absurd are
controls_line bytes v d false name (l ∷ []) (x ∷ y ∷ vs) none room good fresh count are fields = absurd are.1
controls_line bytes v d false name (l ∷ []) (x ∷ []) none room good fresh count are fields =
    control_word v d _ name l fields (control_at_back v d name l x none (omega (arith, room)) good fresh are.0) ∙ ap (λ (e : Definition). Ok e) (line-control d name l x)
controls_line bytes versions.One d true name literals vs none room good fresh count are fields = absurd count
controls_line bytes versions.Two d true name [] vs none room good fresh count are fields = absurd (omega (arith, count.0))
controls_line bytes versions.Two d true name (l ∷ ls) vs none room good fresh count are fields =
    let many : length (l ∷ ls) ≡ length vs = values_same (l ∷ ls) vs are in
    array_word versions.Two d _ name l ls refl fields (name_no_equals name (name_given versions.Two name good)) (array_at_back versions.Two d name (l ∷ ls) vs none count.1 (omega (arith, many, room)) good fresh are)

control_line_back : (bytes : Bytes) (v : Version) (at : ℕ) (d e : Definition) (c : ControlLine) (rest : List (List ℕ)) → 0 < length rest → length d.units ≡ 0 → length d.controls + length c.defaults ≤ most_controls v → named d c.name ≡ None → IsControlLine v c
    → body_at v (at + 1) (with_line d c) rest ≡ Ok e → body_at v at d (control_bytes c ∷ rest) ≡ Ok e
control_line_back bytes v at d e c rest some none room fresh is h =
    let fields = control_are_fields bytes v c is in
    let cut_line : pieces 32 (control_bytes c) ≡ control_fields c = cut_fields (cond c.is_array (codes "array") (codes "control")) (c.name ∷ c.literals) fields in
    goes_on v at d (with_line d c) e (control_bytes c) rest some (not_end (control_fields c) (control_bytes c) cut_line (word_no_end c.is_array))
    (ap (line_at v d) cut_line ∙ controls_line bytes v d c.is_array c.name c.literals c.defaults none room is.name fresh is.count is.values fields) h

-- what is read after the controls
abbrev pub AfterControls : Version → Definition → List (List ℕ) → Type 0
AfterControls v e rest = (at : ℕ) (n : Definition) → n.name ≡ e.name → n.controls ≡ e.controls → n.arrays ≡ e.arrays → n.units ≡ [] → n.wires ≡ [] → body_at v at n rest ≡ Ok e

-- the first of further names is new
first_fresh : (d : Definition) (ps : List Parameter) (n : List ℕ) (rest : List (List ℕ)) → d.wires ≡ [] → slice_get (names_in ps) 0 ≡ Some n → AreDistinct (control_names d ++ (names_in ps ++ rest)) → named d n ≡ None
first_fresh d ps n rest wires is apart =
    let absent : place_of n (control_names d) ≡ None = distinct_before (control_names d) (names_in ps ++ rest) n 0 apart (get_front (names_in ps) rest 0 n is) in
    find_nothing d n (ap (λ (ws : List (List ℕ)). place_of n (control_names d ++ ws)) wires ∙ ap (place_of n) (append-nil (control_names d)) ∙ absent)

first_named : (name : List ℕ) (vs : List ℤ) (cs : List Parameter) → 0 < length vs → slice_get (names_in (elements name 0 vs ++ cs)) 0 ≡ Some name
first_named name [] cs some = absurd (omega arith)
first_named name (x ∷ vs) cs some = refl

pub line_some : (v : Version) (b : Bool) (n : ℕ) → MayHave v b n → (1 ≤ n) × (n ≤ 64)
line_some v false n h = (omega (arith, h), omega (arith, h))
line_some versions.One true n h = absurd h
line_some versions.Two true n h = h

controls_back : (bytes : Bytes) (v : Version) (at : ℕ) (d e : Definition) (cs : List ControlLine) (rest : List (List ℕ)) → 0 < length rest → d.name ≡ e.name → e.controls ≡ d.controls ++ controls_of cs → e.arrays ≡ d.arrays ++ arrays_of (length d.controls) cs → d.units ≡ [] → d.wires ≡ []
    → Every (IsControlLine v) cs → AreNames (names_of e) → length e.controls ≤ most_controls v → AfterControls v e rest → body_at v at d (map control_bytes cs ++ rest) ≡ Ok e
controls_back bytes v at d e [] rest some name is arrays units wires h ok few goes = goes at d name (sym (is ∙ append-nil d.controls)) (sym (arrays ∙ append-nil d.arrays)) units wires
controls_back bytes v at d e (c ∷ cs) rest some name is arrays units wires h ok few goes =
    let ps : List Parameter = controls_of (c ∷ cs) in
    let all : names_of e ≡ control_names d ++ (names_in ps ++ e.wires) =
    ap (λ (qs : List Parameter). names_in qs ++ e.wires) is
    ∙ ap (λ (ns : List (List ℕ)). ns ++ e.wires) (map-append (λ (q : Parameter). q.name) d.controls ps)
    ∙ append_assoc (control_names d) (names_in ps) e.wires in
    let many : length c.literals ≡ length c.defaults = values_same c.literals c.defaults h.0.values in
    let count = line_some v c.is_array (length c.literals) h.0.count in
    let fresh : named d c.name ≡ None = first_fresh d ps c.name e.wires wires (first_named c.name c.defaults (controls_of cs) (omega (arith, many, count.0))) (subst AreDistinct all ok.distinct) in
    let room : length d.controls + length c.defaults ≤ most_controls v =
    omega (arith, few, ap length is, length-append d.controls ps, length-append (elements c.name 0 c.defaults) (controls_of cs), length-elements c.name 0 c.defaults) in
    let n : Definition = with_line d c in
    let more : e.controls ≡ n.controls ++ controls_of cs = is ∙ sym (append_assoc d.controls (elements c.name 0 c.defaults) (controls_of cs)) in
    let more_arrays : e.arrays ≡ n.arrays ++ arrays_of (length n.controls) cs =
    arrays ∙ sym (append_assoc d.arrays (line_arrays (length d.controls) c) (arrays_of (length d.controls + length c.defaults) cs)) ∙ ap (λ (k : ℕ). n.arrays ++ arrays_of k cs) (sym (length-line d c)) in
    let long : 0 < length (map control_bytes cs ++ rest) = omega (arith, length-append (map control_bytes cs) rest) in
    control_line_back bytes v at d e c (map control_bytes cs ++ rest) long (ap length units) room fresh h.0 (controls_back bytes v (at + 1) n e cs rest some name more more_arrays units wires h.1 ok few goes)

-- the title
pub version-title : (v : Version) → version_of (title v) ≡ Some v
version-title versions.One = refl
version-title versions.Two = refl

title_first : (v : Version) (after : List (List ℕ)) (e : Definition) → (length after == 0) ≡ false → after_title v after ≡ Ok e → title_at (title v ∷ after) ≡ Ok e
title_first v after e some h = rw some (ap (λ (o : Option Version). versioned_at o after) (version-title v) ∙ h)

title_back : (v : Version) (name : List ℕ) (e : Definition) (rest : List (List ℕ)) → 0 < length rest → is_name v name ≡ true → body_at v 3 (named_only name) rest ≡ Ok e → title_at (title v ∷ join_with_byte 32 (codes "def" ∷ name ∷ []) ∷ rest) ≡ Ok e
title_back v name e rest some good h =
    let long : (length rest == 0) ≡ false = false_from_ne_true (length rest == 0) (λ t. let z : length rest ≡ 0 = eqb-true (length rest) 0 t in omega arith) in
    let field = name_field name (name_given v name good) in
    let full : (length name == 0) ≡ false = false_from_ne_true (length name == 0) (λ t. field.some (eqb-true (length name) 0 t)) in
    let cut_title : pieces 32 (join_with_byte 32 (codes "def" ∷ name ∷ [])) ≡ codes "def" ∷ name ∷ [] = cut_fields (codes "def") (name ∷ []) (record { some = λ z. omega arith; plain = refl }, (field, tt)) in
    let def_is : def_and_body v (codes "def" ∷ name ∷ []) rest ≡ Ok e = rw (full, good) h in
    let after : after_title v (join_with_byte 32 (codes "def" ∷ name ∷ []) ∷ rest) ≡ Ok e = rw long (ap (λ (fs : List (List ℕ)). def_and_body v fs rest) cut_title ∙ def_is) in
    let second : List (List ℕ) = join_with_byte 32 (codes "def" ∷ name ∷ []) ∷ rest in
    title_first v second e (false_from_ne_true (length second == 0) (λ t. let z : length second ≡ 0 = eqb-true (length second) 0 t in omega arith)) after

-- no line holds a line feed
title_above : (v : Version) → list_all (λ b. nat_lt 10 b) (title v) ≡ true
title_above versions.One = refl
title_above versions.Two = refl

control_lines_above : (bytes : Bytes) (v : Version) (cs : List ControlLine) (rest : List (List ℕ)) → Every (IsControlLine v) cs → AllAbove 10 rest → AllAbove 10 (map control_bytes cs ++ rest)
control_lines_above bytes v [] rest h r = r
control_lines_above bytes v (c ∷ cs) rest h r = (whole_line (control_fields c) (control_are_fields bytes v c h.0), control_lines_above bytes v cs rest h.1 r)

unit_lines_above : (bytes : Bytes) (v : Version) (e : Definition) (parts : List UnitParts) (us : List UnitLine) → Each (IsUnit e) parts us → list_all is_given_name (names_of e) ≡ true → list_all (is_name v) (flat_map (λ p. p.outputs) parts) ≡ true
    → AllAbove 10 (map unit_bytes parts ++ ending)
unit_lines_above bytes v e [] [] h n o = (refl, (refl, tt))
unit_lines_above bytes v e [] (u ∷ us) h n o = absurd h
unit_lines_above bytes v e (p ∷ ps) [] h n o = absurd h
unit_lines_above bytes v e (p ∷ ps) (u ∷ us) h n o =
    let q = and_parts (list_all (is_name v) p.outputs) (list_all (is_name v) (flat_map (λ p. p.outputs) ps)) (sym (list_all-append (is_name v) p.outputs (flat_map (λ p. p.outputs) ps)) ∙ o) in
    let fields = input_fields bytes e p.inputs u.inputs n h.0.inputs in
    let good : GoodParts v p = record { outputs = q.0; unit = known_name v p.unit u.kind h.0.kind; inputs = fields.0; no_equals = fields.1 } in
    (whole_line (unit_fields p) (unit_are_fields v p good), unit_lines_above bytes v e ps us h.1 n q.1)

-- the names of what lines of controls give
lines_given : (v : Version) (cs : List ControlLine) → Every (IsControlLine v) cs → list_all is_given_name (names_in (controls_of cs)) ≡ true
lines_given v [] h = refl
lines_given v (c ∷ cs) h =
    let many : length c.literals ≡ length c.defaults = values_same c.literals c.defaults h.0.values in
    let count = line_some v c.is_array (length c.literals) h.0.count in
    let here : list_all is_given_name (names_in (elements c.name 0 c.defaults)) ≡ true = elements_given v c.name 0 c.defaults h.0.name (omega (arith, many, count.1)) in
    ap (list_all is_given_name) (map-append (λ (q : Parameter). q.name) (elements c.name 0 c.defaults) (controls_of cs))
    ∙ list_all-append is_given_name (names_in (elements c.name 0 c.defaults)) (names_in (controls_of cs))
    ∙ and_from (list_all is_given_name (names_in (elements c.name 0 c.defaults))) (list_all is_given_name (names_in (controls_of cs))) here (lines_given v cs h.1)

pub all_given : (text : List ℕ) (d : Definition) → DefinitionText text d → list_all is_given_name (names_of d) ≡ true
all_given text d g =
    list_all-append is_given_name (control_names d) d.wires
    ∙ and_from (list_all is_given_name (control_names d)) (list_all is_given_name d.wires) (ap (λ (ps : List Parameter). list_all is_given_name (names_in ps)) (sym g.controls_are) ∙ lines_given g.version g.controls g.each_control)
    (names_given g.version d.wires g.wires)

-- what is in the grammar is read
pub is_read : Bytes → (text : List ℕ) (d : Definition) → DefinitionText text d → text_at text ≡ Ok d
unfolding text_at
is_read bytes text d g =
    let v : Version = g.version in
    let names : AreNames (names_of d) = record { names = all_given text d g; distinct = g.distinct } in
    let units : List (List ℕ) = map unit_bytes g.units ++ ending in
    let body : List (List ℕ) = map control_bytes g.controls ++ units in
    let second : List ℕ = join_with_byte 32 (codes "def" ∷ d.name ∷ []) in
    let lines : List (List ℕ) = title v ∷ second ∷ body in
    let some_units : 0 < length units = ending_long unit_bytes g.units in
    let some_body : 0 < length body = omega (arith, length-append (map control_bytes g.controls) units) in
    let outputs : list_all (is_name v) (flat_map (λ p. p.outputs) g.units) ≡ true = ap (list_all (is_name v)) g.outputs ∙ g.wires in
    let second_above : list_all (λ b. nat_lt 10 b) second ≡ true = whole_line (codes "def" ∷ d.name ∷ []) (record { some = λ z. omega arith; plain = refl }, (name_field d.name (name_given v d.name g.named), tt)) in
    let above_all : AllAbove 10 lines = (title_above v, (second_above, control_lines_above bytes v g.controls units g.each_control (unit_lines_above bytes v d g.units d.units g.each_unit names.names outputs))) in
    let cut_lines : pieces 10 text ≡ lines = ap (pieces 10) (g.lines ∙ sym (whole_text v d.name g.controls g.units)) ∙ cut 10 (title v) (second ∷ body) above_all in
    let goes : AfterControls v d units = λ at n name controls arrays none no_wires.
    units_back bytes v at n d g.units d.units
    (record { name = sym name; controls = sym controls; arrays = sym arrays; units = ap (λ (us : List UnitLine). us ++ d.units) (sym none); wires = sym g.outputs ∙ ap (λ (ws : List (List ℕ)). ws ++ flat_map (λ p. p.outputs) g.units) (sym no_wires) })
    g.each_unit
    (subst (λ (k : ℕ). UnitsFit k (length n.wires) d.units) (ap length (sym controls)) (subst (λ (k : ℕ). UnitsFit (length d.controls) k d.units) (sym (ap length no_wires)) g.formed.fit))
    names g.wires g.formed.units g.formed.wires in
    let read : body_at v 3 (named_only d.name) body ≡ Ok d = controls_back bytes v 3 (named_only d.name) d g.controls units some_units refl (sym g.controls_are) (sym g.arrays_are) refl refl g.each_control names g.few goes in
    ap title_at cut_lines ∙ title_back v d.name d body some_body g.named read

pub names_short : (d : Definition) → IsWritten d → list_all is_given_name (d.name ∷ names_of d) ≡ true
names_short d w =
    let g = in_grammar w.0 d w.1 in
    and_from (is_given_name d.name) (list_all is_given_name (names_of d)) (name_given g.version d.name g.named) (all_given w.0 d g)
