-- What is read from a text is what its lines say, from the first to the last.
use Rattle.std.proofs.Common.{◌≡◌, ℕ, ◌+◌, ◌<◌, ◌≤◌, ◌==◌, ◌||◌, Bool, true, false, cond, not, List, [], ◌∷◌, ◌++◌, length, map, flat_map, Option, Some, None, Ok, Err, ◌⊎◌, inl, inr, ⊎_elim, refl, sym, ap, subst, ◌∙◌, arith, lit≤, codes, append_assoc, append-nil, length-append, eqb-true, zero-le}
use Rattle.std.specs.Str.{bytes_eq}
use Rattle.std.specs.List.{join_with_byte}
use Rattle.std.proofs.lemmas.Bool.{or_parts, not-false}
use Rattle.std.proofs.lemmas.Slice.Eq.{bytes_eq-Decides}
use Rattle.sn_def.specs.declared.fault.DefKind.TheVariants as wrong
use Rattle.sn_def.specs.declared.fault.DefFault.{DefFault}
use Rattle.sn_def.specs.declared.unit.Unit.{Unit as UnitLine}
use Rattle.sn_def.specs.declared.version.Version.{Version}
use Rattle.sn_def.specs.declared.version.Version.TheVariants as versions
use Rattle.sn_def.specs.Definition.{Definition, Parameter, elements, named_only}
use Rattle.sn_def.specs.Versions.{title, version_of, most_controls}
use Rattle.sn_def.specs.Reading.{◌>>=◌, pieces, is_name, UnitParts, line_at, fault, at_line, is_over, end_at, body_at, named_at, def_at, versioned_at, title_at, text_at}
use Rattle.sn_def.specs.Grammar.{line, ControlLine, text_of, controls_of, arrays_of, Every, Each, IsControlLine, IsUnit, DefinitionText}
use Rattle.sn_def.proofs.ElementNames.{length-elements, nothing_rooted}
use Rattle.sn_def.proofs.Lines.{joined, ending, control_bytes, unit_bytes, line_first, lines_first}
use Rattle.sn_def.proofs.Forming.{past, steps, same_ok, end_same, at_line_ok, written_formed}
use Rattle.sn_def.proofs.Sound.{Good, Grows, unit_says_kept, UnitStep, ControlStep, with_line, line_arrays, cond_says, line_says}

-- the last line is `end`
pub is_over-last : (after : List (List ℕ)) → is_over after ≡ true → after ≡ [] ∷ []
is_over-last [] h = cc
is_over-last ([] ∷ []) h = refl
is_over-last ((b ∷ bs) ∷ []) h = let z : length (b ∷ bs) ≡ 0 = eqb-true (length (b ∷ bs)) 0 h in absurd (omega arith)
is_over-last (p ∷ q ∷ rest) h = cc

pub end_over : (d e : Definition) (b : Bool) (f : DefFault) → cond b (Ok d) (Err f) ≡ Ok e → b ≡ true
end_over d e true f h = refl
end_over d e false f h = cc

last_line : (n : ℕ) (d e : Definition) (line : List ℕ) (after : List (List ℕ)) → bytes_eq line (codes "end") ≡ true → end_at n d after ≡ Ok e → (line ∷ after ≡ ending) × (d ≡ e)
last_line n d e line after is h =
    let here : line ≡ codes "end" = (bytes_eq-Decides line (codes "end")).0 is in
    let over : after ≡ [] ∷ [] = is_over-last after (end_over d e (is_over after) (fault (n + 1) wrong.Line) h) in
    (ap (λ (l : List ℕ). l ∷ after) here ∙ ap (λ (ls : List (List ℕ)). codes "end" ∷ ls) over, end_same n d e after h)

-- the lines of units
pub record UnitRest (v : Version) (d : Definition) (lines : List (List ℕ)) (e : Definition) : Type 0 where
  pub parts : List UnitParts
  pub units : List UnitLine
  pub lines_are : lines ≡ map unit_bytes parts ++ ending
  pub each : Each (IsUnit e) parts units
  pub grows : Grows d e units (flat_map (λ p. p.outputs) parts)
  pub good : Good v e

still : (d : Definition) → Grows d d [] []
still d = record { name = refl; controls = refl; arrays = refl; units = sym (append-nil d.units); wires = sym (append-nil d.wires) }

further : (d n e : Definition) (us vs : List UnitLine) (ws xs : List (List ℕ)) → Grows d n us ws → Grows n e vs xs → Grows d e (us ++ vs) (ws ++ xs)
further d n e us vs ws xs g h = record {
  name = h.name ∙ g.name;
  controls = h.controls ∙ g.controls;
  arrays = h.arrays ∙ g.arrays;
  units = h.units ∙ ap (λ (t : List UnitLine). t ++ vs) g.units ∙ append_assoc d.units us vs;
  wires = h.wires ∙ ap (λ (t : List (List ℕ)). t ++ xs) g.wires ∙ append_assoc d.wires ws xs;
}

no_more : (v : Version) (d e : Definition) (lines : List (List ℕ)) → lines ≡ ending → d ≡ e → Good v d → UnitRest v d lines e
no_more v d e lines is same good = record {
  parts = [];
  units = [];
  lines_are = is;
  each = tt;
  grows = subst (λ (g : Definition). Grows d g [] []) same (still d);
  good = subst (λ (g : Definition). Good v g) same good;
}

one_more_unit : (v : Version) (d n e : Definition) (text : List ℕ) (after : List (List ℕ)) → UnitStep v d (pieces 32 text) n → UnitRest v n after e → UnitRest v d (text ∷ after) e
one_more_unit v d n e text after s r = record {
  parts = s.parts ∷ r.parts;
  units = s.unit ∷ r.units;
  lines_are = ap (λ (t : List ℕ). t ∷ after) (sym (joined 32 text) ∙ ap (join_with_byte 32) s.fields_are) ∙ ap (λ (ls : List (List ℕ)). unit_bytes s.parts ∷ ls) r.lines_are;
  each = (unit_says_kept d e (s.unit ∷ r.units) (s.parts.outputs ++ flat_map (λ p. p.outputs) r.parts) s.parts s.unit (further d n e (s.unit ∷ []) r.units s.parts.outputs (flat_map (λ p. p.outputs) r.parts) s.grows r.grows) s.says, r.each);
  grows = further d n e (s.unit ∷ []) r.units s.parts.outputs (flat_map (λ p. p.outputs) r.parts) s.grows r.grows;
  good = r.good;
}

more_units : (d n : Definition) (u : UnitLine) (ws : List (List ℕ)) → Grows d n (u ∷ []) ws → 0 < length n.units
more_units d n u ws g = subst (λ (us : List UnitLine). 0 < length us) (sym g.units) (omega (arith, length-append d.units (u ∷ [])))

some_units : (v : Version) (d n : Definition) (fields : List (List ℕ)) → 0 < length d.units → ControlStep v d fields n ⊎ UnitStep v d fields n → UnitStep v d fields n
some_units v d n fields some (inl c) = let none : length d.units ≡ 0 = c.none in absurd (omega arith)
some_units v d n fields some (inr u) = u

units_read : (v : Version) (at : ℕ) (d e : Definition) (lines : List (List ℕ)) → 0 < length d.units → Good v d → body_at v at d lines ≡ Ok e → UnitRest v d lines e
unfolding body_at
units_read v at d e [] some ok h = cc
units_read v at d e (text ∷ after) some ok h =
    let a = past (length after == 0) (fault at wrong.Line) _ e h in
    ⊎_elim (λ (p : (text ∷ after ≡ ending) × (d ≡ e)). no_more v d e (text ∷ after) p.0 p.1 ok)
    (λ (q : (at_line at (line_at v d (pieces 32 text)) >>= λ next. body_at v (at + 1) next after) ≡ Ok e).
    let p = steps (at_line at (line_at v d (pieces 32 text))) _ e q in
    let s = some_units v d p.0 (pieces 32 text) some (line_says v d p.0 (pieces 32 text) (λ z. absurd (omega arith)) ok (at_line_ok at _ p.0 p.1)) in
    one_more_unit v d p.0 e text after s (units_read v (at + 1) p.0 e after (more_units d p.0 s.unit s.parts.outputs s.grows) s.good p.2))
    (cond_says (bytes_eq text (codes "end")) (end_at at d after) _ e (λ t r. last_line at d e text after t r) (λ r. r) a.1)

-- the lines of controls and units
pub record Rest (v : Version) (d : Definition) (lines : List (List ℕ)) (e : Definition) : Type 0 where
  pub controls : List ControlLine
  pub parts : List UnitParts
  pub units : List UnitLine
  pub lines_are : lines ≡ map control_bytes controls ++ (map unit_bytes parts ++ ending)
  pub name : e.name ≡ d.name
  pub controls_are : e.controls ≡ d.controls ++ controls_of controls
  pub arrays_are : e.arrays ≡ d.arrays ++ arrays_of (length d.controls) controls
  pub units_are : e.units ≡ units
  pub wires : e.wires ≡ flat_map (λ p. p.outputs) parts
  pub each_control : Every (IsControlLine v) controls
  pub each_unit : Each (IsUnit e) parts units
  pub few : length e.controls ≤ most_controls v
  pub good : Good v e

no_list : {X : Type 0} (xs : List X) → length xs ≡ 0 → xs ≡ []
no_list [] h = refl
no_list (x ∷ xs) h = absurd (omega arith)

units_alone : (v : Version) (d e : Definition) (lines : List (List ℕ)) → length d.units ≡ 0 → length d.wires ≡ 0 → length d.controls ≤ most_controls v → UnitRest v d lines e → Rest v d lines e
units_alone v d e lines none no_wires few r = record {
  controls = [];
  parts = r.parts;
  units = r.units;
  lines_are = r.lines_are;
  name = r.grows.name;
  controls_are = r.grows.controls ∙ sym (append-nil d.controls);
  arrays_are = r.grows.arrays ∙ sym (append-nil d.arrays);
  units_are = r.grows.units ∙ ap (λ (us : List UnitLine). us ++ r.units) (no_list d.units none);
  wires = r.grows.wires ∙ ap (λ (ws : List (List ℕ)). ws ++ flat_map (λ p. p.outputs) r.parts) (no_list d.wires no_wires);
  each_control = tt;
  each_unit = r.each;
  few = subst (λ (cs : List Parameter). length cs ≤ most_controls v) (sym r.grows.controls) few;
  good = r.good;
}

-- how many controls one more line gives
pub length-line : (d : Definition) (c : ControlLine) → length (with_line d c).controls ≡ length d.controls + length c.defaults
length-line d c = length-append d.controls (elements c.name 0 c.defaults) ∙ ap (λ (k : ℕ). length d.controls + k) (length-elements c.name 0 c.defaults)

line_first_rest : (v : Version) (d e : Definition) (text : List ℕ) (after : List (List ℕ)) (c : ControlLine) → text ≡ control_bytes c → IsControlLine v c → Rest v (with_line d c) after e → Rest v d (text ∷ after) e
line_first_rest v d e text after c is says r = record {
  controls = c ∷ r.controls;
  parts = r.parts;
  units = r.units;
  lines_are = ap (λ (t : List ℕ). t ∷ after) is ∙ ap (λ (ls : List (List ℕ)). control_bytes c ∷ ls) r.lines_are;
  name = r.name;
  controls_are = r.controls_are ∙ append_assoc d.controls (elements c.name 0 c.defaults) (controls_of r.controls);
  arrays_are = r.arrays_are ∙ append_assoc d.arrays (line_arrays (length d.controls) c) (arrays_of (length (with_line d c).controls) r.controls)
      ∙ ap (λ (k : ℕ). d.arrays ++ (line_arrays (length d.controls) c ++ arrays_of k r.controls)) (length-line d c);
  units_are = r.units_are;
  wires = r.wires;
  each_control = (says, r.each_control);
  each_unit = r.each_unit;
  few = r.few;
  good = r.good;
}

one_more_control : (v : Version) (d n e : Definition) (text : List ℕ) (after : List (List ℕ)) → ControlStep v d (pieces 32 text) n → Rest v n after e → Rest v d (text ∷ after) e
one_more_control v d n e text after s r =
    line_first_rest v d e text after s.line (sym (joined 32 text) ∙ ap (join_with_byte 32) s.fields_are) s.says (subst (λ (g : Definition). Rest v g after e) s.made r)

all_read : (v : Version) (at : ℕ) (d e : Definition) (lines : List (List ℕ)) → length d.units ≡ 0 → length d.wires ≡ 0 → length d.controls ≤ most_controls v → Good v d → body_at v at d lines ≡ Ok e → Rest v d lines e
unfolding body_at
all_read v at d e [] none no_wires few ok h = cc
all_read v at d e (text ∷ after) none no_wires few ok h =
    let a = past (length after == 0) (fault at wrong.Line) _ e h in
    ⊎_elim (λ (p : (text ∷ after ≡ ending) × (d ≡ e)). units_alone v d e (text ∷ after) none no_wires few (no_more v d e (text ∷ after) p.0 p.1 ok))
    (λ (q : (at_line at (line_at v d (pieces 32 text)) >>= λ next. body_at v (at + 1) next after) ≡ Ok e).
    let p = steps (at_line at (line_at v d (pieces 32 text))) _ e q in
    ⊎_elim (λ (s : ControlStep v d (pieces 32 text) p.0). one_more_control v d p.0 e text after s
    (all_read v (at + 1) p.0 e after (ap (λ (g : Definition). length g.units) s.made ∙ none) (ap (λ (g : Definition). length g.wires) s.made ∙ no_wires) s.few s.good p.2))
    (λ (s : UnitStep v d (pieces 32 text) p.0). units_alone v d e (text ∷ after) none no_wires few
    (one_more_unit v d p.0 e text after s (units_read v (at + 1) p.0 e after (more_units d p.0 s.unit s.parts.outputs s.grows) s.good p.2)))
    (line_says v d p.0 (pieces 32 text) (λ z. no_wires) ok (at_line_ok at _ p.0 p.1)))
    (cond_says (bytes_eq text (codes "end")) (end_at at d after) _ e (λ t r. last_line at d e text after t r) (λ r. r) a.1)

-- the line `def NAME`
pub record Title (v : Version) (fields : List (List ℕ)) (d : Definition) : Type 0 where
  pub name : List ℕ
  pub fields_are : fields ≡ codes "def" ∷ name ∷ []
  pub is : is_name v name ≡ true
  pub made : named_only name ≡ d

named_read : (v : Version) (word name : List ℕ) (d : Definition) → named_at v word name ≡ Ok d → Title v (word ∷ name ∷ []) d
named_read v word name d h =
    let a = past (not (bytes_eq word (codes "def")) || length name == 0) (fault 2 wrong.Line) _ d h in
    let b = past (not (is_name v name)) (fault 2 wrong.Name) _ d a.1 in
    let word_is = not-false (bytes_eq word (codes "def")) (or_parts (not (bytes_eq word (codes "def"))) (length name == 0) a.0).0 in
    record {
      name = name;
      fields_are = ap (λ (w : List ℕ). w ∷ name ∷ []) ((bytes_eq-Decides word (codes "def")).0 word_is);
      is = not-false (is_name v name) b.0;
      made = same_ok {E = DefFault} (named_only name) d b.1;
    }

pub def_read : (v : Version) (fields : List (List ℕ)) (d : Definition) → def_at v fields ≡ Ok d → Title v fields d
def_read v [] d h = cc
def_read v (a ∷ []) d h = cc
def_read v (word ∷ name ∷ []) d h = named_read v word name d h
def_read v (a ∷ b ∷ x ∷ y) d h = cc

pub whole_text : (v : Version) (name : List ℕ) (cs : List ControlLine) (us : List UnitParts)
    → join_with_byte 10 (title v ∷ join_with_byte 32 (codes "def" ∷ name ∷ []) ∷ (map control_bytes cs ++ (map unit_bytes us ++ ending))) ≡ text_of v name cs us
whole_text v name cs us =
    let second : List ℕ = join_with_byte 32 (codes "def" ∷ name ∷ []) in
    let units : List (List ℕ) = map unit_bytes us ++ ending in
    let controls : List (List ℕ) = map control_bytes cs ++ units in
    let some_end : 0 < length ending = lit≤ tt in
    let some_units : 0 < length units = omega (arith, length-append (map unit_bytes us) ending) in
    let some_controls : 0 < length controls = omega (arith, length-append (map control_bytes cs) units) in
    line_first (title v) (second ∷ controls) (omega arith)
    ∙ ap (λ (t : List ℕ). (title v ++ 10 ∷ []) ++ t) (line_first second controls some_controls
    ∙ ap (λ (t : List ℕ). (second ++ 10 ∷ []) ++ t) (lines_first control_bytes cs units some_units
    ∙ ap (λ (t : List ℕ). flat_map (λ c. control_bytes c ++ 10 ∷ []) cs ++ t) (lines_first unit_bytes us ending some_end)))

said : (v : Version) (text : List ℕ) (name : List ℕ) (rest : List (List ℕ)) (e : Definition) → text_at text ≡ Ok e → text ≡ join_with_byte 10 (title v ∷ join_with_byte 32 (codes "def" ∷ name ∷ []) ∷ rest) → is_name v name ≡ true
    → Rest v (named_only name) rest e → DefinitionText text e
said v text name rest e read is good r = record {
  version = v;
  controls = r.controls;
  units = r.parts;
  lines = is ∙ ap (λ (ls : List (List ℕ)). join_with_byte 10 (title v ∷ join_with_byte 32 (codes "def" ∷ name ∷ []) ∷ ls)) r.lines_are ∙ whole_text v name r.controls r.parts ∙ ap (λ (n : List ℕ). text_of v n r.controls r.parts) (sym r.name);
  each_control = r.each_control;
  controls_are = sym r.controls_are;
  arrays_are = sym r.arrays_are;
  each_unit = subst (Each (IsUnit e) r.parts) (sym r.units_are) r.each_unit;
  outputs = sym r.wires;
  named = ap (is_name v) r.name ∙ good;
  wires = r.good.wires;
  distinct = r.good.names.names.distinct;
  few = r.few;
  formed = written_formed e (text, read);
}

pub no_names : (v : Version) (name : List ℕ) → Good v (named_only name)
no_names v name = record { names = record { names = record { names = refl; distinct = tt }; rooted = nothing_rooted }; wires = refl }

none_few : (v : Version) → 0 ≤ most_controls v
none_few v = zero-le

body_said : (v : Version) (text line name : List ℕ) (d e : Definition) (rest : List (List ℕ)) → text_at text ≡ Ok e → text ≡ join_with_byte 10 (title v ∷ line ∷ rest) → line ≡ join_with_byte 32 (codes "def" ∷ name ∷ []) → is_name v name ≡ true
    → named_only name ≡ d → body_at v 3 d rest ≡ Ok e → DefinitionText text e
body_said v text line name d e rest read is second good made h =
    let body : body_at v 3 (named_only name) rest ≡ Ok e = ap (λ (g : Definition). body_at v 3 g rest) made ∙ h in
    said v text name rest e read (is ∙ ap (λ (l : List ℕ). join_with_byte 10 (title v ∷ l ∷ rest)) second) good (all_read v 3 (named_only name) e rest refl refl (none_few v) (no_names v name) body)

-- the first line of a version
is_title : (line : List ℕ) (one two : Bool) (v : Version) → (one ≡ true → line ≡ title versions.One) → (two ≡ true → line ≡ title versions.Two) → cond one (Some versions.One) (cond two (Some versions.Two) None) ≡ Some v → line ≡ title v
is_title line true two versions.One f g h = f refl
is_title line true two versions.Two f g h = cc
is_title line false true versions.One f g h = cc
is_title line false true versions.Two f g h = g refl
is_title line false false v f g h = cc

pub title_told : (line : List ℕ) (v : Version) → version_of line ≡ Some v → line ≡ title v
title_told line v h = is_title line (bytes_eq line (codes "snova 1")) (bytes_eq line (codes "snova 2")) v ((bytes_eq-Decides line (codes "snova 1")).0) ((bytes_eq-Decides line (codes "snova 2")).0) h

versioned_said : (text first second : List ℕ) (rest : List (List ℕ)) (e : Definition) (o : Option Version) → text_at text ≡ Ok e → text ≡ join_with_byte 10 (first ∷ second ∷ rest) → version_of first ≡ o → versioned_at o (second ∷ rest) ≡ Ok e → DefinitionText text e
versioned_said text first second rest e None read is told h = cc
versioned_said text first second rest e (Some v) read is told h =
    let b = past (length rest == 0) (fault 2 wrong.Line) _ e h in
    let c = steps (def_at v (pieces 32 second)) _ e b.1 in
    let t = def_read v (pieces 32 second) c.0 c.1 in
    body_said v text second t.name c.0 e rest read (is ∙ ap (λ (l : List ℕ). join_with_byte 10 (l ∷ second ∷ rest)) (title_told first v told)) (sym (joined 32 second) ∙ ap (join_with_byte 32) t.fields_are) t.is t.made c.2

title_said : (text : List ℕ) (e : Definition) (lines : List (List ℕ)) → text_at text ≡ Ok e → text ≡ join_with_byte 10 lines → title_at lines ≡ Ok e → DefinitionText text e
title_said text e [] read is h = cc
title_said text e (first ∷ []) read is h = cc
title_said text e (first ∷ second ∷ rest) read is h = versioned_said text first second rest e (version_of first) read is refl (past (length (second ∷ rest) == 0) (fault 1 wrong.Line) _ e h).1

-- what is read is in the grammar
pub in_grammar : (text : List ℕ) (d : Definition) → text_at text ≡ Ok d → DefinitionText text d
unfolding text_at
in_grammar text d h = title_said text d (pieces 10 text) h (sym (joined 10 text)) h
