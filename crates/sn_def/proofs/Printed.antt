-- What is printed of a definition is in the grammar.
use Rattle.std.proofs.Common.{◌≡◌, ℕ, ℤ, suc, ◌+◌, ◌-◌, ◌≤◌, ◌||◌, ◌&&◌, not, Bool, true, false, cond, nat_le, List, [], ◌∷◌, ◌++◌, length, map, take, drop, flat_map, slice_index, unwrap_or, Option, Some, Ok, refl, sym, ap, subst, ◌∙◌, arith, codes, take-append-drop, le-leb, leb-true}
use Rattle.std.specs.List.{list_all}
use Rattle.std.specs.Str.{bytes_eq}
use Rattle.std.specs.Fmt.{signed_decimal}
use Rattle.std.proofs.lemmas.Bool.{and_parts, and_from}
use Rattle.std.proofs.lemmas.List.{take_at, drop_at, length-map}
use Rattle.sn_fixed.specs.Literal.{literal}
use Rattle.sn_fixed.specs.Laws.{ReadsBack, HasLiteralBytes}
use Rattle.sn_def.specs.declared.unit.Input.{Input}
use Rattle.sn_def.specs.declared.unit.Input.TheVariants.{Literal, Control, Wire}
use Rattle.sn_def.specs.declared.unit.Unit.{Unit as UnitLine}
use Rattle.sn_def.specs.Units.{row_of, kind_named}
use Rattle.sn_def.specs.declared.arrays.Run.{Run}
use Rattle.sn_def.specs.declared.version.Version.{Version}
use Rattle.sn_def.specs.declared.version.Version.TheVariants as versions
use Rattle.sn_def.specs.Definition.{Definition, Parameter, elements, parameter, run}
use Rattle.sn_def.specs.Versions.{most_controls}
use Rattle.sn_def.specs.Reading.{UnitParts, is_name, is_name_byte, begins_name, text_at, IsWritten}
use Rattle.sn_def.specs.Grammar.{ControlLine, controls_of, arrays_of, Every, Each, MayHave, IsValue, IsControlLine, IsInput, IsUnit, DefinitionText}
use Rattle.sn_def.specs.Printing.{version_for, values_printed, control_printed, first_name, array_printed, controls_printed, input_printed, units_printed, print_of}
use Rattle.sn_def.proofs.ElementNames.{length-elements}
use Rattle.sn_def.proofs.Samples.{sample_read}
use Rattle.sn_def.proofs.Forming.{kind_has_name}
use Rattle.sn_def.proofs.Whole.{in_grammar}
use Rattle.sn_def.proofs.Complete.{is_read, values_same, line_some}

abbrev pub Digits : Type 0
Digits = (z : ℤ) → ReadsBack z

digits_back : (digits : Digits) (f : List ℕ) (v : ℤ) → literal f ≡ Some v → literal (signed_decimal v) ≡ Some v
digits_back digits f v h = let s = sample_read f v h in digits v s.low s.high

-- ---- lines of controls

-- a line with each value written as a whole number
abbrev whole_values : ControlLine → ControlLine
whole_values c = record c { literals = map (λ v. signed_decimal v) c.defaults }

values_of : (name : List ℕ) (k : ℕ) (vs : List ℤ) → values_printed (elements name k vs) ≡ map (λ v. signed_decimal v) vs
values_of name k [] = refl
values_of name k (x ∷ vs) = ap (λ (l : List (List ℕ)). signed_decimal x ∷ l) (values_of name (k + 1) vs)

defaults_in : (name : List ℕ) (k : ℕ) (vs : List ℤ) → map (λ (p : Parameter). p.default) (elements name k vs) ≡ vs
defaults_in name k [] = refl
defaults_in name k (x ∷ vs) = ap (λ (l : List ℤ). x ∷ l) (defaults_in name (k + 1) vs)

name_first : (name : List ℕ) (vs : List ℤ) → 1 ≤ length vs → first_name (elements name 0 vs) ≡ name
name_first name [] some = absurd (omega arith)
name_first name (x ∷ vs) some = refl

array_again : (name : List ℕ) (literals : List (List ℕ)) (vs : List ℤ) → 1 ≤ length vs → array_printed (elements name 0 vs) ≡ whole_values (record { is_array = true; name = name; literals = literals; defaults = vs })
array_again name literals vs some =
    let made : List ℕ → List (List ℕ) → List ℤ → ControlLine = λ n ls ds. record { is_array = true; name = n; literals = ls; defaults = ds } in
    let es : List Parameter = elements name 0 vs in
    ap (λ (n : List ℕ). made n (values_printed es) (map (λ (p : Parameter). p.default) es)) (name_first name vs some)
    ∙ ap (λ (ls : List (List ℕ)). made name ls (map (λ (p : Parameter). p.default) es)) (values_of name 0 vs)
    ∙ ap (made name (map (λ v. signed_decimal v) vs)) (defaults_in name 0 vs)

-- the first array begins no earlier than here
abbrev BeginFrom : ℕ → List Run → Type 0
BeginFrom n [] = Unit {0}
BeginFrom n (r ∷ rs) = n ≤ r.first

begin_earlier : (m n : ℕ) (rs : List Run) → m ≤ n → BeginFrom n rs → BeginFrom m rs
begin_earlier m n [] le h = tt
begin_earlier m n (r ∷ rs) le h = omega arith

begin_first : (n len : ℕ) (b : Bool) (rs : List Run) → BeginFrom (n + len) rs → BeginFrom n (cond b (run n len ∷ []) [] ++ rs)
begin_first n len true rs h = omega arith
begin_first n len false rs h = begin_earlier n (n + len) rs (omega arith) h

begin_arrays : (n : ℕ) (cs : List ControlLine) → BeginFrom n (arrays_of n cs)
begin_arrays n [] = tt
begin_arrays n (c ∷ cs) = begin_first n (length c.defaults) c.is_array (arrays_of (n + length c.defaults) cs) (begin_arrays (n + length c.defaults) cs)

-- a control that stands before the first array
control_alone : (n : ℕ) (p : Parameter) (ps : List Parameter) (rs : List Run) → BeginFrom (n + 1) rs → controls_printed n (p ∷ ps) rs ≡ control_printed p ∷ controls_printed (n + 1) ps rs
control_alone n p ps [] h = refl
control_alone n p ps (r ∷ rs) h =
    let behind : n + 1 ≤ r.first = h in
    let all : List Parameter = p ∷ ps in
    let printed : ℕ → ℕ → List ControlLine = λ m k. map control_printed (take m all) ++ array_printed (take r.len (drop m all)) ∷ controls_printed (r.first + r.len) (drop k all) rs in
    let one : r.first - n ≡ suc (r.first - (n + 1)) = omega arith in
    let two : r.first - n + r.len ≡ suc (r.first - (n + 1) + r.len) = omega arith in
    ap (λ (m : ℕ). printed m (r.first - n + r.len)) one ∙ ap (printed (suc (r.first - (n + 1)))) two

array_alone : (n : ℕ) (es ps : List Parameter) (rs : List Run) → controls_printed n (es ++ ps) (run n (length es) ∷ rs) ≡ array_printed es ∷ controls_printed (n + length es) ps rs
array_alone n es ps rs =
    let all : List Parameter = es ++ ps in
    let printed : ℕ → ℕ → List ControlLine = λ m k. map control_printed (take m all) ++ array_printed (take (length es) (drop m all)) ∷ controls_printed (n + length es) (drop k all) rs in
    let one : n - n ≡ 0 = omega arith in
    let two : n - n + length es ≡ length es = omega arith in
    ap (λ (m : ℕ). printed m (n - n + length es)) one ∙ ap (printed 0) two
    ∙ ap (λ (us : List Parameter). array_printed us ∷ controls_printed (n + length es) (drop (length es) all) rs) (take_at es ps (length es) refl)
    ∙ ap (λ (us : List Parameter). array_printed es ∷ controls_printed (n + length es) us rs) (drop_at es ps (length es) refl)

line_again : (v : Version) (n : ℕ) (b : Bool) (name : List ℕ) (literals : List (List ℕ)) (vs : List ℤ) (cs : List ControlLine) → MayHave v b (length literals) → Each IsValue literals vs
    → controls_printed (n + length vs) (controls_of cs) (arrays_of (n + length vs) cs) ≡ map whole_values cs
    → controls_printed n (elements name 0 vs ++ controls_of cs) (cond b (run n (length vs) ∷ []) [] ++ arrays_of (n + length vs) cs) ≡ whole_values (record { is_array = b; name = name; literals = literals; defaults = vs }) ∷ map whole_values cs
line_again v n true name literals vs cs count are more =
    let many : length literals ≡ length vs = values_same literals vs are in
    let some : 1 ≤ length vs = omega (arith, many, (line_some v true (length literals) count).0) in
    let es : List Parameter = elements name 0 vs in
    let rest : List Run = arrays_of (n + length vs) cs in
    let as_long : length es ≡ length vs = length-elements name 0 vs in
    ap (λ (k : ℕ). controls_printed n (es ++ controls_of cs) (run n k ∷ rest)) (sym as_long)
    ∙ array_alone n es (controls_of cs) rest
    ∙ ap (λ (k : ℕ). array_printed es ∷ controls_printed (n + k) (controls_of cs) rest) as_long
    ∙ ap (λ (c : ControlLine). c ∷ controls_printed (n + length vs) (controls_of cs) rest) (array_again name literals vs some)
    ∙ ap (λ (ls : List ControlLine). whole_values (record { is_array = true; name = name; literals = literals; defaults = vs }) ∷ ls) more
line_again v n false name literals (x ∷ []) cs count are more =
    control_alone n (parameter name x) (controls_of cs) (arrays_of (n + 1) cs) (begin_arrays (n + 1) cs)
    ∙ ap (λ (ls : List ControlLine). control_printed (parameter name x) ∷ ls) more
line_again v n false name literals [] cs count are more = absurd (omega (arith, values_same literals [] are, count))
line_again v n false name literals (x ∷ y ∷ vs) cs count are more = absurd (omega (arith, values_same literals (x ∷ y ∷ vs) are, count))

-- what lines of controls give is printed in as many lines
lines_again : (v : Version) (n : ℕ) (cs : List ControlLine) → Every (IsControlLine v) cs → controls_printed n (controls_of cs) (arrays_of n cs) ≡ map whole_values cs
lines_again v n [] h = refl
lines_again v n (c ∷ cs) h = line_again v n c.is_array c.name c.literals c.defaults cs h.0.count h.0.values (lines_again v (n + length c.defaults) cs h.1)

values_said : (digits : Digits) (fs : List (List ℕ)) (vs : List ℤ) → Each IsValue fs vs → Each IsValue (map (λ v. signed_decimal v) vs) vs
values_said digits [] [] h = tt
values_said digits [] (x ∷ vs) h = absurd h
values_said digits (f ∷ fs) [] h = absurd h
values_said digits (f ∷ fs) (x ∷ vs) h = (digits_back digits f x h.0, values_said digits fs vs h.1)

-- ---- the lower version

-- what is said in one version may be said in another
record Lowers (v w : Version) (cs : List ControlLine) (controls : ℕ) : Type 0 where
  names : (n : List ℕ) → is_name v n ≡ true → is_name w n ≡ true
  counts : Every (λ (c : ControlLine). MayHave w c.is_array (length c.literals)) cs
  few : controls ≤ most_controls w

own_counts : (v : Version) (cs : List ControlLine) → Every (IsControlLine v) cs → Every (λ (c : ControlLine). MayHave v c.is_array (length c.literals)) cs
own_counts v [] h = tt
own_counts v (c ∷ cs) h = (h.0.count, own_counts v cs h.1)

none_first : (n len : ℕ) (b : Bool) (literals : ℕ) (rs : List Run) → MayHave versions.One b literals → rs ≡ [] → cond b (run n len ∷ []) [] ++ rs ≡ []
none_first n len true literals rs count h = absurd count
none_first n len false literals rs count h = h

one_has_none : (n : ℕ) (cs : List ControlLine) → Every (IsControlLine versions.One) cs → arrays_of n cs ≡ []
one_has_none n [] h = refl
one_has_none n (c ∷ cs) h = none_first n (length c.defaults) c.is_array (length c.literals) (arrays_of (n + length c.defaults) cs) h.0.count (one_has_none (n + length c.defaults) cs h.1)

none_count : (v : Version) (n len : ℕ) (b : Bool) (literals : ℕ) (rs : List Run) → cond b (run n len ∷ []) [] ++ rs ≡ [] → MayHave v b literals → MayHave versions.One b literals × (rs ≡ [])
none_count v n len true literals rs none count = absurd cc
none_count v n len false literals rs none count = (count, none)

none_counts : (v : Version) (n : ℕ) (cs : List ControlLine) → arrays_of n cs ≡ [] → Every (IsControlLine v) cs → Every (λ (c : ControlLine). MayHave versions.One c.is_array (length c.literals)) cs
none_counts v n [] none h = tt
none_counts v n (c ∷ cs) none h =
    let p = none_count v n (length c.defaults) c.is_array (length c.literals) (arrays_of (n + length c.defaults) cs) none h.0.count in
    (p.0, none_counts v (n + length c.defaults) cs p.1 h.1)

-- a name of version 2 is one of version 1
fewer_reserved : (a r x : Bool) → (a && not (r || x)) ≡ true → (a && not (r || false)) ≡ true
fewer_reserved true false false h = refl
fewer_reserved true false true h = cc
fewer_reserved true true x h = cc
fewer_reserved false r x h = cc

lower_name : (n : List ℕ) → is_name versions.Two n ≡ true → is_name versions.One n ≡ true
unfolding is_name
lower_name n h =
    fewer_reserved (begins_name (slice_index n 0) && nat_le (length n) 31 && list_all is_name_byte n) (bytes_eq n (codes "snova") || bytes_eq n (codes "def") || bytes_eq n (codes "control") || bytes_eq n (codes "end")) (bytes_eq n (codes "array")) h

by_count : (cs : List ControlLine) (controls : ℕ) (b : Bool) → nat_le controls 128 ≡ b → arrays_of 0 cs ≡ [] → Every (IsControlLine versions.Two) cs → controls ≤ 512 → Lowers versions.Two (cond b versions.One versions.Two) cs controls
by_count cs controls true is none h few = record { names = lower_name; counts = none_counts versions.Two 0 cs none h; few = leb-true controls 128 is }
by_count cs controls false is none h few = record { names = λ n i. i; counts = own_counts versions.Two cs h; few = few }

lower : (v : Version) (cs : List ControlLine) (rs : List Run) (controls : ℕ) → arrays_of 0 cs ≡ rs → Every (IsControlLine v) cs → controls ≤ most_controls v → Lowers v (version_for rs controls) cs controls
lower versions.One cs rs controls is h few =
    let low : version_for rs controls ≡ versions.One = ap (λ (qs : List Run). version_for qs controls) (sym is ∙ one_has_none 0 cs h) ∙ ap (λ (b : Bool). cond b versions.One versions.Two) (le-leb controls 128 few) in
    subst (λ (w : Version). Lowers versions.One w cs controls) (sym low) (record { names = λ n i. i; counts = own_counts versions.One cs h; few = few })
lower versions.Two cs [] controls is h few = by_count cs controls (nat_le controls 128) refl is h few
lower versions.Two cs (r ∷ rs) controls is h few = record { names = λ n i. i; counts = own_counts versions.Two cs h; few = few }

lines_said : (digits : Digits) (v w : Version) (cs : List ControlLine) → ((n : List ℕ) → is_name v n ≡ true → is_name w n ≡ true) → Every (IsControlLine v) cs → Every (λ (c : ControlLine). MayHave w c.is_array (length c.literals)) cs → Every (IsControlLine w) (map whole_values cs)
lines_said digits v w [] names h counts = tt
lines_said digits v w (c ∷ cs) names h counts =
    let many : length c.literals ≡ length (map (λ v. signed_decimal v) c.defaults) = values_same c.literals c.defaults h.0.values ∙ sym (length-map c.defaults (λ (v : ℤ). signed_decimal v)) in
    (record { name = names c.name h.0.name; count = subst (MayHave w c.is_array) many counts.0; values = values_said digits c.literals c.defaults h.0.values }, lines_said digits v w cs names h.1 counts.1)

names_said : (v w : Version) (ns : List (List ℕ)) → ((n : List ℕ) → is_name v n ≡ true → is_name w n ≡ true) → list_all (is_name v) ns ≡ true → list_all (is_name w) ns ≡ true
names_said v w [] names h = refl
names_said v w (n ∷ ns) names h =
    let p = and_parts (is_name v n) (list_all (is_name v) ns) h in
    and_from (is_name w n) (list_all (is_name w) ns) (names n p.0) (names_said v w ns names p.1)

same_controls : (cs : List ControlLine) → controls_of (map whole_values cs) ≡ controls_of cs
same_controls [] = refl
same_controls (c ∷ cs) = ap (λ (ps : List Parameter). elements c.name 0 c.defaults ++ ps) (same_controls cs)

same_arrays : (n : ℕ) (cs : List ControlLine) → arrays_of n (map whole_values cs) ≡ arrays_of n cs
same_arrays n [] = refl
same_arrays n (c ∷ cs) = ap (λ (rs : List Run). cond c.is_array (run n (length c.defaults) ∷ []) [] ++ rs) (same_arrays (n + length c.defaults) cs)

-- ---- lines of units

input_said : (digits : Digits) (d : Definition) (f : List ℕ) (x : Input) → IsInput d f x → IsInput d (input_printed d x) x
input_said digits d f (Literal v) h = digits_back digits f v h
input_said digits d f (Control k) h = let named : List ℕ → Option (List ℕ) = λ n. Some n in h ∙ ap named (sym (ap (λ (o : Option (List ℕ)). unwrap_or o []) h))
input_said digits d f (Wire k) h = let named : List ℕ → Option (List ℕ) = λ n. Some n in h ∙ ap named (sym (ap (λ (o : Option (List ℕ)). unwrap_or o []) h))

inputs_said : (digits : Digits) (d : Definition) (fs : List (List ℕ)) (xs : List Input) → Each (IsInput d) fs xs → Each (IsInput d) (map (input_printed d) xs) xs
inputs_said digits d [] [] h = tt
inputs_said digits d [] (x ∷ xs) h = absurd h
inputs_said digits d (f ∷ fs) [] h = absurd h
inputs_said digits d (f ∷ fs) (x ∷ xs) h = (input_said digits d f x h.0, inputs_said digits d fs xs h.1)

name_said : (name : List ℕ) (u : UnitLine) → kind_named name ≡ Some u.kind → kind_named (row_of u.kind).name ≡ Some u.kind
name_said name u h = ap kind_named (kind_has_name name u.kind h) ∙ h

pub units_said : (digits : Digits) (d : Definition) (parts : List UnitParts) (us : List UnitLine) (wires : List (List ℕ)) → flat_map (λ p. p.outputs) parts ≡ wires → Each (IsUnit d) parts us
    → Each (IsUnit d) (units_printed d wires us) us × (flat_map (λ p. p.outputs) (units_printed d wires us) ≡ wires)
units_said digits d [] [] wires is h = (tt, is)
units_said digits d [] (u ∷ us) wires is h = absurd h
units_said digits d (p ∷ ps) [] wires is h = absurd h
units_said digits d (p ∷ ps) (u ∷ us) wires is h =
    let others : List (List ℕ) = flat_map (λ q. q.outputs) ps in
    let front : take u.outputs wires ≡ p.outputs = ap (take u.outputs) (sym is) ∙ take_at p.outputs others u.outputs h.0.outputs in
    let back : others ≡ drop u.outputs wires = sym (ap (drop u.outputs) (sym is) ∙ drop_at p.outputs others u.outputs h.0.outputs) in
    let more = units_said digits d ps us (drop u.outputs wires) back h.1 in (
      (record { kind = name_said p.unit u h.0.kind; outputs = ap length front ∙ h.0.outputs; inputs = inputs_said digits d p.inputs u.inputs h.0.inputs }, more.0),
      ap (λ (ws : List (List ℕ)). take u.outputs wires ++ ws) more.1 ∙ take-append-drop u.outputs wires,
    )

pub print_in_grammar : (digits : Digits) (text : List ℕ) (d : Definition) → DefinitionText text d → DefinitionText (print_of d) d
unfolding print_of
print_in_grammar digits text d g =
    let w : Version = version_for d.arrays (length d.controls) in
    let low : Lowers g.version w g.controls (length d.controls) = lower g.version g.controls d.arrays (length d.controls) g.arrays_are g.each_control g.few in
    let units = units_said digits d g.units d.units d.wires g.outputs g.each_unit in
    let lines : controls_printed 0 d.controls d.arrays ≡ map whole_values g.controls =
    ap (λ (ps : List Parameter). controls_printed 0 ps d.arrays) (sym g.controls_are) ∙ ap (λ (rs : List Run). controls_printed 0 (controls_of g.controls) rs) (sym g.arrays_are) ∙ lines_again g.version 0 g.controls g.each_control in
    record {
      version = w;
      controls = controls_printed 0 d.controls d.arrays;
      units = units_printed d d.wires d.units;
      lines = refl;
      each_control = subst (λ (cs : List ControlLine). Every (IsControlLine w) cs) (sym lines) (lines_said digits g.version w g.controls low.names g.each_control low.counts);
      controls_are = ap controls_of lines ∙ same_controls g.controls ∙ g.controls_are;
      arrays_are = ap (arrays_of 0) lines ∙ same_arrays 0 g.controls ∙ g.arrays_are;
      each_unit = units.0;
      outputs = units.1;
      named = low.names d.name g.named;
      wires = names_said g.version w d.wires low.names g.wires;
      distinct = g.distinct;
      few = low.few;
      formed = g.formed;
    }

-- what is printed reads back
pub print_reads : Digits → ((text : List ℕ) → HasLiteralBytes text) → (d : Definition) → IsWritten d → text_at (print_of d) ≡ Ok d
print_reads digits bytes d w = is_read bytes (print_of d) d (print_in_grammar digits w.0 d (in_grammar w.0 d w.1))
