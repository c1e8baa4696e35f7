-- What is read from a text is said by its lines.
use Rattle.std.proofs.Common.{◌≡◌, ℕ, ℤ, ◌+◌, ◌==◌, ◌&&◌, ◌||◌, Bool, true, false, cond, not, nat_le, nat_lt, List, [], ◌∷◌, ◌++◌, length, map, slice_get, Option, Some, None, IfSome, Result, Ok, Err, ◌⊎◌, inl, inr, refl, sym, ap, subst, ◌∙◌, arith, codes, append_assoc, append-nil, length-append, is_some, eqb-true, ◌<◌, ◌≤◌, leb-false, ltb-false}
use Rattle.std.specs.Str.{bytes_eq}
use Rattle.std.specs.List.{list_all, list_any}
use Rattle.std.proofs.lemmas.Bool.{and_parts, and_from, or_parts, not-false}
use Rattle.std.proofs.lemmas.Slice.Eq.{bytes_eq-Decides}
use Rattle.std.proofs.lemmas.List.{map-append}
use Rattle.std.proofs.lemmas.List.Folds.{list_all-append}
use Rattle.sn_fixed.specs.Literal.{literal}
use Rattle.sn_def.specs.declared.fault.DefKind.{DefKind}
use Rattle.sn_def.specs.declared.fault.DefKind.TheVariants as wrong
use Rattle.sn_def.specs.declared.kind.Kind.{Kind}
use Rattle.sn_def.specs.declared.table.Mark.{Mark}
use Rattle.sn_def.specs.declared.table.Mark.TheVariants.{Signal, Index, Constant, Longest}
use Rattle.sn_def.specs.declared.unit.Input.{Input}
use Rattle.sn_def.specs.declared.unit.Input.TheVariants.{Literal, Control, Wire}
use Rattle.sn_def.specs.declared.unit.Unit.{Unit as UnitLine}
use Rattle.sn_def.specs.Units.{row_of, kind_named}
use Rattle.sn_def.specs.declared.arrays.Run.{Run}
use Rattle.sn_def.specs.declared.version.Version.{Version}
use Rattle.sn_def.specs.declared.version.Version.TheVariants as versions
use Rattle.sn_def.specs.Definition.{Definition, Parameter, place_of, or_else, as_control, as_wire, named, control_names, elements, run, with_controls, with_control, with_array, with_wires, with_unit, unit_line}
use Rattle.sn_def.specs.Versions.{most_controls, has_arrays}
use Rattle.sn_def.specs.Reading.{is_name, is_known, is_array_word, is_reserved, first_of, default_at, control_at, default_of, defaults_at, array_at, mark_at, literal_at, name_at, value_or_name_at, input_at, inputs_at, wires_at, UnitParts, counts_fit, unit_of, unit_if_known, unit_at, unit_line_at, unit_parts, control_line_at, array_line_at, line_at}
use Rattle.sn_def.specs.Grammar.{ControlLine, control_fields, unit_fields, Each, MayHave, IsValue, IsControlLine, IsInput, IsUnit, names_of}
use Rattle.sn_def.proofs.ElementNames.{names_in, length-elements, AreRooted, one_more_plain, array_rooted}
use Rattle.sn_def.proofs.Naming.{no_control, no_wire}
use Rattle.sn_def.proofs.Distinct.{absent-append, place_get, get_front}
use Rattle.sn_def.proofs.Lines.{unit_line_fields}
use Rattle.sn_def.proofs.Forming.{past, steps, same_ok, wires_given, as_many_defaults, some_literals}

nothing : (o : Option Input) → is_some o ≡ false → o ≡ None
nothing None h = refl
nothing (Some x) h = cc

pub is_fresh : (d : Definition) (n : List ℕ) → is_known d n ≡ false → place_of n (names_of d) ≡ None
unfolding named
is_fresh d n h =
    let none = nothing (or_else (as_control (place_of n (control_names d))) (as_wire (place_of n d.wires))) h in
    absent-append n (control_names d) d.wires (no_control (place_of n (control_names d)) (place_of n d.wires) none) (no_wire (place_of n (control_names d)) (place_of n d.wires) none)

-- the names of a definition, those of elements after their array's, and the names of wires
pub record Good (v : Version) (d : Definition) : Type 0 where
  pub names : AreRooted (names_of d)
  pub wires : list_all (is_name v) d.wires ≡ true

names-more : (d : Definition) (ps : List Parameter) → d.wires ≡ [] → names_of (with_controls d ps) ≡ names_of d ++ names_in ps
names-more d ps none =
    let more : List (List ℕ) = names_in ps in
    ap (λ (ns : List (List ℕ)). ns ++ d.wires) (map-append (λ (c : Parameter). c.name) d.controls ps)
    ∙ ap (λ (ws : List (List ℕ)). (control_names d ++ more) ++ ws) none ∙ append-nil (control_names d ++ more)
    ∙ ap (λ (ns : List (List ℕ)). ns ++ more) (sym (append-nil (control_names d)) ∙ ap (λ (ws : List (List ℕ)). control_names d ++ ws) (sym none))

pub wires_named : (v : Version) (d e : Definition) (names : List (List ℕ)) → wires_at d names ≡ Ok e → list_all (is_name v) names ≡ true → Good v d → Good v e
unfolding wires_at
wires_named v d e [] h all ok = subst (λ (g : Definition). Good v g) (same_ok {E = DefKind} d e h) ok
wires_named v d e (n ∷ ns) h all ok =
    let p = past (is_known d n) wrong.Twice (wires_at (with_wires d (n ∷ [])) ns) e h in
    let q = and_parts (is_name v n) (list_all (is_name v) ns) all in
    wires_named v (with_wires d (n ∷ [])) e ns p.1 q.1 (record {
      names = subst AreRooted (append_assoc (control_names d) d.wires (n ∷ [])) (one_more_plain v (names_of d) n ok.names q.0 (is_fresh d n p.0));
      wires = list_all-append (is_name v) d.wires (n ∷ []) ∙ and_from (list_all (is_name v) d.wires) (is_name v n && true) ok.wires (and_from (is_name v n) true q.0 refl);
    })

-- a field that is read as an input says it
value_says : (d : Definition) (mark : Mark) (field : List ℕ) (v : ℤ) (x : Input) → literal field ≡ Some v → literal_at mark v ≡ Ok x → IsInput d field x
value_says d Signal field v x is h = subst (IsInput d field) (same_ok {E = DefKind} (Literal v) x h) is
value_says d Index field v x is h = subst (IsInput d field) (same_ok {E = DefKind} (Literal v) x h) is
value_says d Constant field v x is h = subst (IsInput d field) (same_ok {E = DefKind} (Literal v) x h) is
value_says d Longest field v x is h = longest _ h
  where
    longest : (b : Bool) → cond b (Ok (Literal v)) (Err wrong.Constant) ≡ Ok x → IsInput d field x
    longest true h = subst (IsInput d field) (same_ok {E = DefKind} (Literal v) x h) is
    longest false h = cc

same_input : (mark : Mark) (o x : Input) → name_at mark (Some o) ≡ Ok x → o ≡ x
same_input Signal o x h = same_ok {E = DefKind} o x h
same_input Index (Literal v) x h = same_ok {E = DefKind} (Literal v) x h
same_input Index (Control k) x h = same_ok {E = DefKind} (Control k) x h
same_input Index (Wire k) x h = cc
same_input Constant o x h = cc
same_input Longest o x h = cc

name_says : (d : Definition) (mark : Mark) (field : List ℕ) (o : Option Input) (x : Input) → IfSome o (IsInput d field) → name_at mark o ≡ Ok x → IsInput d field x
name_says d mark field None x is h = cc
name_says d mark field (Some o) x is h = subst (IsInput d field) (same_input mark o x h) is

either_says : (d : Definition) (mark : Mark) (field : List ℕ) (v : Option ℤ) (o : Option Input) (x : Input) → literal field ≡ v → IfSome o (IsInput d field) → value_or_name_at mark v o ≡ Ok x → IsInput d field x
either_says d mark field (Some v) o x is there h = value_says d mark field v x is h
either_says d mark field None o x is there h = name_says d mark field o x there h

first_says : (d : Definition) (field : List ℕ) (a b : Option ℕ) → IfSome a (λ k. slice_get (control_names d) k ≡ Some field) → IfSome b (λ k. slice_get d.wires k ≡ Some field) → IfSome (or_else (as_control a) (as_wire b)) (IsInput d field)
first_says d field (Some k) b h i = h
first_says d field None (Some k) h i = i
first_says d field None None h i = tt

named_says : (d : Definition) (field : List ℕ) → IfSome (named d field) (IsInput d field)
unfolding named
named_says d field = first_says d field (place_of field (control_names d)) (place_of field d.wires) (place_get field (control_names d)) (place_get field d.wires)

pub input_says : (d : Definition) (mark : Mark) (field : List ℕ) (x : Input) → input_at d mark field ≡ Ok x → IsInput d field x
unfolding input_at
input_says d mark field x h = either_says d mark field (literal field) (named d field) x refl (named_says d field) h

pub inputs_say : (d : Definition) (marks : List Mark) (i : ℕ) (fields : List (List ℕ)) (xs : List Input) → inputs_at d marks i fields ≡ Ok xs → Each (IsInput d) fields xs
unfolding inputs_at
inputs_say d marks i [] xs h = subst (Each (IsInput d) []) (same_ok {E = DefKind} [] xs h) tt
inputs_say d marks i (field ∷ fields) xs h =
    let one = steps (input_at d (mark_at marks i) field) _ xs h in
    let more = steps (inputs_at d marks (i + 1) fields) _ xs one.2 in
    subst (Each (IsInput d) (field ∷ fields)) (same_ok {E = DefKind} (one.0 ∷ more.0) xs more.2) (input_says d (mark_at marks i) field one.0 one.1, inputs_say d marks (i + 1) fields more.0 more.1)

-- a definition with more units and wires
pub record Grows (d e : Definition) (us : List UnitLine) (ws : List (List ℕ)) : Type 0 where
  pub name : e.name ≡ d.name
  pub controls : e.controls ≡ d.controls
  pub arrays : e.arrays ≡ d.arrays
  pub units : e.units ≡ d.units ++ us
  pub wires : e.wires ≡ d.wires ++ ws

pub input_kept : (d e : Definition) (us : List UnitLine) (ws : List (List ℕ)) (field : List ℕ) (x : Input) → Grows d e us ws → IsInput d field x → IsInput e field x
input_kept d e us ws field (Literal v) g h = h
input_kept d e us ws field (Control k) g h = subst (λ (cs : List Parameter). slice_get (map (λ c. c.name) cs) k ≡ Some field) (sym g.controls) h
input_kept d e us ws field (Wire k) g h = subst (λ (names : List (List ℕ)). slice_get names k ≡ Some field) (sym g.wires) (get_front d.wires ws k field h)

inputs_kept : (d e : Definition) (us : List UnitLine) (ws : List (List ℕ)) (fields : List (List ℕ)) (xs : List Input) → Grows d e us ws → Each (IsInput d) fields xs → Each (IsInput e) fields xs
inputs_kept d e us ws [] [] g h = tt
inputs_kept d e us ws [] (x ∷ xs) g h = absurd h
inputs_kept d e us ws (f ∷ fs) [] g h = absurd h
inputs_kept d e us ws (f ∷ fs) (x ∷ xs) g h = (input_kept d e us ws f x g h.0, inputs_kept d e us ws fs xs g h.1)

pub unit_says_kept : (d e : Definition) (us : List UnitLine) (ws : List (List ℕ)) (p : UnitParts) (u : UnitLine) → Grows d e us ws → IsUnit d p u → IsUnit e p u
unit_says_kept d e us ws p u g is = record { kind = is.kind; outputs = is.outputs; inputs = inputs_kept d e us ws p.inputs u.inputs g is.inputs }

-- a unit line that is read
pub record UnitStep (v : Version) (d : Definition) (fields : List (List ℕ)) (e : Definition) : Type 0 where
  pub parts : UnitParts
  pub unit : UnitLine
  pub fields_are : fields ≡ unit_fields parts
  pub says : IsUnit d parts unit
  pub grows : Grows d e (unit ∷ []) parts.outputs
  pub good : Good v e

unit_of_says : (v : Version) (d e : Definition) (fields : List (List ℕ)) (parts : UnitParts) (kind : Kind) → fields ≡ unit_fields parts → kind_named parts.unit ≡ Some kind → Good v d → unit_of v d parts kind ≡ Ok e → UnitStep v d fields e
unfolding unit_of
unit_of_says v d e fields parts kind are is ok h =
    let a = past (not (counts_fit (row_of kind) (length parts.inputs) (length parts.outputs))) wrong.Count _ e h in
    let b = past (not (list_all (is_name v) parts.outputs)) wrong.Name _ e a.1 in
    let w = steps (wires_at d parts.outputs) _ e b.1 in
    let i = steps (inputs_at d (row_of kind).inputs 0 parts.inputs) _ e w.2 in
    let made : with_unit (with_wires d parts.outputs) kind i.0 (length parts.outputs) ≡ e =
    ap (λ (g : Definition). with_unit g kind i.0 (length parts.outputs)) (sym (wires_given d w.0 parts.outputs w.1)) ∙ same_ok {E = DefKind} (with_unit w.0 kind i.0 (length parts.outputs)) e i.2 in
    let good : Good v w.0 = wires_named v d w.0 parts.outputs w.1 (not-false (list_all (is_name v) parts.outputs) b.0) ok in
    let after : Good v (with_unit w.0 kind i.0 (length parts.outputs)) = record { names = good.names; wires = good.wires } in
    let last : with_unit w.0 kind i.0 (length parts.outputs) ≡ e = same_ok {E = DefKind} (with_unit w.0 kind i.0 (length parts.outputs)) e i.2 in
    record {
      parts = parts;
      unit = unit_line kind i.0 (length parts.outputs);
      fields_are = are;
      says = record { kind = is; outputs = refl; inputs = inputs_say d (row_of kind).inputs 0 parts.inputs i.0 i.1 };
      grows = record {
        name = ap (λ (g : Definition). g.name) (sym made);
        controls = ap (λ (g : Definition). g.controls) (sym made);
        arrays = ap (λ (g : Definition). g.arrays) (sym made);
        units = ap (λ (g : Definition). g.units) (sym made);
        wires = ap (λ (g : Definition). g.wires) (sym made);
      };
      good = subst (λ (g : Definition). Good v g) last after;
    }

unit_known_says : (v : Version) (d e : Definition) (fields : List (List ℕ)) (parts : UnitParts) (o : Option Kind) → fields ≡ unit_fields parts → kind_named parts.unit ≡ o → Good v d → unit_if_known v d parts o ≡ Ok e → UnitStep v d fields e
unit_known_says v d e fields parts (Some kind) are is ok h = unit_of_says v d e fields parts kind are is ok h
unit_known_says v d e fields parts None are is ok h = cc

unit_says : (v : Version) (d e : Definition) (fields : List (List ℕ)) (parts : UnitParts) → fields ≡ unit_fields parts → Good v d → unit_at v d parts ≡ Ok e → UnitStep v d fields e
unfolding unit_at
unit_says v d e fields parts are ok h = unit_known_says v d e fields parts (kind_named parts.unit) are refl ok (past (nat_le 256 (length d.units) || nat_lt 512 (length d.wires + length parts.outputs)) wrong.Limit _ e h).1

unit_line_says : (v : Version) (d e : Definition) (fields : List (List ℕ)) (o : Option UnitParts) → unit_parts fields ≡ o → Good v d → unit_line_at v d o ≡ Ok e → UnitStep v d fields e
unit_line_says v d e fields (Some parts) is ok h = unit_says v d e fields parts (unit_line_fields fields parts is) ok h
unit_line_says v d e fields None is ok h = cc

-- a definition with a line of controls more
abbrev pub line_arrays : ℕ → ControlLine → List Run
line_arrays before c = cond c.is_array (run before (length c.defaults) ∷ []) []

abbrev pub with_line : Definition → ControlLine → Definition
with_line d c = record d { controls = d.controls ++ elements c.name 0 c.defaults; arrays = d.arrays ++ line_arrays (length d.controls) c }

-- a line of controls that is read
pub record ControlStep (v : Version) (d : Definition) (fields : List (List ℕ)) (e : Definition) : Type 0 where
  pub line : ControlLine
  pub fields_are : fields ≡ control_fields line
  pub says : IsControlLine v line
  pub made : e ≡ with_line d line
  pub none : length d.units ≡ 0
  pub few : length e.controls ≤ most_controls v
  pub good : Good v e

no_wires : (ws : List (List ℕ)) → length ws ≡ 0 → ws ≡ []
no_wires [] h = refl
no_wires (w ∷ ws) h = absurd (omega arith)

-- more names of elements, if there are no wires
good-more : (v : Version) (d : Definition) (name : List ℕ) (vs : List ℤ) → d.wires ≡ [] → is_name v name ≡ true → is_known d name ≡ false → length vs ≤ 64 → Good v d → AreRooted (names_of (with_controls d (elements name 0 vs)))
good-more v d name vs none named fresh few ok = subst AreRooted (sym (names-more d (elements name 0 vs) none)) (array_rooted v (names_of d) name vs named few (is_fresh d name fresh) ok.names)

default_says : (v : Version) (d e : Definition) (word name value : List ℕ) (o : Option ℤ) → word ≡ codes "control" → literal value ≡ o → d.wires ≡ [] → length d.units ≡ 0 → length d.controls < most_controls v → is_name v name ≡ true → is_known d name ≡ false → Good v d
    → default_at d name o ≡ Ok e → ControlStep v d (word ∷ name ∷ value ∷ []) e
default_says v d e word name value (Some x) control is none units room named fresh ok h =
    let made : with_control d name x ≡ e = same_ok {E = DefKind} (with_control d name x) e h in
    let p : Parameter = record { name = name; default = x } in
    let good : Good v (with_control d name x) = record { names = good-more v d name (x ∷ []) none named fresh (omega arith) ok; wires = ok.wires } in
    let few : length (d.controls ++ p ∷ []) ≤ most_controls v = omega (arith, length-append d.controls (p ∷ [])) in
    record {
      line = record { is_array = false; name = name; literals = value ∷ []; defaults = x ∷ [] };
      fields_are = ap (λ (w : List ℕ). w ∷ name ∷ value ∷ []) control;
      says = record { name = named; count = refl; values = (is, tt) };
      made = sym made ∙ ap (λ (rs : List Run). record d { controls = d.controls ++ p ∷ []; arrays = rs }) (sym (append-nil d.arrays));
      none = units;
      few = subst (λ (g : Definition). length g.controls ≤ most_controls v) made few;
      good = subst (λ (g : Definition). Good v g) made good;
    }
default_says v d e word name value None control is none units room named fresh ok h = cc

control_says : (v : Version) (d e : Definition) (word name value : List ℕ) → word ≡ codes "control" → (length d.units ≡ 0 → length d.wires ≡ 0) → Good v d → control_at v d name value ≡ Ok e → ControlStep v d (word ∷ name ∷ value ∷ []) e
unfolding control_at
control_says v d e word name value is none ok h =
    let a = past (not (length d.units == 0)) wrong.Line _ e h in
    let b = past (nat_le (most_controls v) (length d.controls)) wrong.Limit _ e a.1 in
    let i = past (not (is_name v name)) wrong.Name _ e b.1 in
    let j = past (is_known d name) wrong.Twice _ e i.1 in
    let units : length d.units ≡ 0 = eqb-true (length d.units) 0 (not-false (length d.units == 0) a.0) in
    default_says v d e word name value (literal value) is refl (no_wires d.wires (none units)) units (leb-false (most_controls v) (length d.controls) b.0) (not-false (is_name v name) i.0) j.0 ok j.1

control_line_says : (v : Version) (d e : Definition) (fields : List (List ℕ)) → first_of fields ≡ codes "control" → (length d.units ≡ 0 → length d.wires ≡ 0) → Good v d → control_line_at v d fields ≡ Ok e → ControlStep v d fields e
control_line_says v d e (word ∷ name ∷ value ∷ []) is none ok h = control_says v d e word name value is none ok h
control_line_says v d e [] is none ok h = cc
control_line_says v d e (a ∷ []) is none ok h = cc
control_line_says v d e (a ∷ b ∷ []) is none ok h = cc
control_line_says v d e (a ∷ b ∷ x ∷ y ∷ z) is none ok h = cc

-- literals that are read say their values
one_said : (field : List ℕ) (o : Option ℤ) (v : ℤ) → literal field ≡ o → default_of o ≡ Ok v → IsValue field v
one_said field (Some x) v is h = is ∙ ap (λ (z : ℤ). Some z) (same_ok {E = DefKind} x v h)
one_said field None v is h = cc

defaults_said : (fields : List (List ℕ)) (vs : List ℤ) → defaults_at fields ≡ Ok vs → Each IsValue fields vs
unfolding defaults_at
defaults_said [] vs h = subst (Each IsValue []) (same_ok {E = DefKind} [] vs h) tt
defaults_said (field ∷ fields) vs h =
    let one = steps (default_of (literal field)) _ vs h in
    let more = steps (defaults_at fields) _ vs one.2 in
    subst (Each IsValue (field ∷ fields)) (same_ok {E = DefKind} (one.0 ∷ more.0) vs more.2) (one_said field (literal field) one.0 refl one.1, defaults_said fields more.0 more.1)

may_have : (v : Version) (n : ℕ) → has_arrays v ≡ true → 1 ≤ n → n ≤ 64 → MayHave v true n
may_have versions.One n h some few = cc
may_have versions.Two n h some few = (some, few)

array_says : (v : Version) (d e : Definition) (word name : List ℕ) (literals : List (List ℕ)) → has_arrays v ≡ true → word ≡ codes "array" → 0 < length literals → (length d.units ≡ 0 → length d.wires ≡ 0) → Good v d → array_at v d name literals ≡ Ok e
    → ControlStep v d (word ∷ name ∷ literals) e
unfolding array_at
array_says v d e word name literals arrays is some none ok h =
    let a = past (not (length d.units == 0)) wrong.Line _ e h in
    let b = past (nat_lt 64 (length literals) || nat_lt (most_controls v) (length d.controls + length literals)) wrong.Limit _ e a.1 in
    let i = past (not (is_name v name)) wrong.Name _ e b.1 in
    let j = past (is_known d name) wrong.Twice _ e i.1 in
    let units : length d.units ≡ 0 = eqb-true (length d.units) 0 (not-false (length d.units == 0) a.0) in
    let limits = or_parts (nat_lt 64 (length literals)) (nat_lt (most_controls v) (length d.controls + length literals)) b.0 in
    let least : length literals ≤ 64 = ltb-false 64 (length literals) limits.0 in
    let room : length d.controls + length literals ≤ most_controls v = ltb-false (most_controls v) (length d.controls + length literals) limits.1 in
    let s = steps (defaults_at literals) _ e j.1 in
    let many : length s.0 ≡ length literals = as_many_defaults literals s.0 s.1 in
    let made : with_array d name s.0 ≡ e = same_ok {E = DefKind} (with_array d name s.0) e s.2 in
    let named : is_name v name ≡ true = not-false (is_name v name) i.0 in
    let good : Good v (with_array d name s.0) = record { names = good-more v d name s.0 (no_wires d.wires (none units)) named j.0 (omega arith) ok; wires = ok.wires } in
    let few : length (d.controls ++ elements name 0 s.0) ≤ most_controls v = omega (arith, length-append d.controls (elements name 0 s.0), length-elements name 0 s.0) in
    record {
      line = record { is_array = true; name = name; literals = literals; defaults = s.0 };
      fields_are = ap (λ (w : List ℕ). w ∷ name ∷ literals) is;
      says = record { name = named; count = may_have v (length literals) arrays (omega arith) least; values = defaults_said literals s.0 s.1 };
      made = sym made;
      none = units;
      few = subst (λ (g : Definition). length g.controls ≤ most_controls v) made few;
      good = subst (λ (g : Definition). Good v g) made good;
    }

array_line_says : (v : Version) (d e : Definition) (fields : List (List ℕ)) → has_arrays v ≡ true → first_of fields ≡ codes "array" → (length d.units ≡ 0 → length d.wires ≡ 0) → Good v d → array_line_at v d fields ≡ Ok e → ControlStep v d fields e
array_line_says v d e [] arrays is none ok h = cc
array_line_says v d e (a ∷ []) arrays is none ok h = cc
array_line_says v d e (word ∷ name ∷ literals) arrays is none ok h =
    let a = past (length literals == 0 || bytes_eq name (codes "=")) wrong.Line _ e h in
    array_says v d e word name literals arrays is (some_literals literals (or_parts (length literals == 0) (bytes_eq name (codes "=")) a.0).0) none ok a.1

pub cond_says : {X E P Q : Type 0} (b : Bool) (r s : Result X E) (x : X) → (b ≡ true → r ≡ Ok x → P) → (s ≡ Ok x → Q) → cond b r s ≡ Ok x → P ⊎ Q
cond_says true r s x f g h = inl (f refl h)
cond_says false r s x f g h = inr (g h)

one_of : {P Q : Type 0} → P ⊎ (P ⊎ Q) → P ⊎ Q
one_of (inl p) = inl p
one_of (inr q) = q

pub line_says : (v : Version) (d e : Definition) (fields : List (List ℕ)) → (length d.units ≡ 0 → length d.wires ≡ 0) → Good v d → line_at v d fields ≡ Ok e → ControlStep v d fields e ⊎ UnitStep v d fields e
unfolding line_at
line_says v d e fields none ok h =
    let a = past (list_any (λ f. length f == 0) fields) wrong.Line _ e h in
    let word = first_of fields in
    one_of (cond_says (bytes_eq word (codes "control")) (control_line_at v d fields) _ e
    (λ t r. control_line_says v d e fields ((bytes_eq-Decides word (codes "control")).0 t) none ok r)
    (cond_says (is_array_word v word) (array_line_at v d fields) _ e
    (λ t r. let p = and_parts (has_arrays v) (bytes_eq word (codes "array")) t in array_line_says v d e fields p.0 ((bytes_eq-Decides word (codes "array")).0 p.1) none ok r)
    (λ i. unit_line_says v d e fields (unit_parts fields) refl ok (past (is_reserved v word) wrong.Line _ e i).1)) a.1)
