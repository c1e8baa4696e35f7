-- What is printed, piece by piece.
use Rattle.std.proofs.Common.{◌≡◌, ℕ, ◌+◌, ◌-◌, ◌<◌, ◌≤◌, ◌==◌, false, List, [], ◌∷◌, ◌++◌, length, zero, suc, map, take, drop, get_or, flat_map, slice_get, unwrap_or, option_map, refl, sym, ap, subst, ◌∙◌, arith, codes, append_assoc, append-nil, length-append}
use Rattle.std.specs.Fmt.{signed_decimal}
use Rattle.std.specs.List.{join_with_byte}
use Rattle.std.proofs.lemmas.Grind.{flat_map-append}
use Rattle.std.proofs.lemmas.List.{drop_more, drop_all, drop-drop, take-map, drop-map}
use Rattle.sn_ports.specs.Octets.{Octets}
use Rattle.sn_def.specs.declared.definition.Param.{Param}
use Rattle.sn_def.specs.declared.unit.Unit.{Unit as UnitLine}
use Rattle.sn_def.specs.Units.{row_of}
use Rattle.sn_def.specs.Definition.{Definition, Parameter}
use Rattle.sn_def.specs.Params.{parameter_of}
use Rattle.sn_def.specs.WellFormed.{RunsFit, outputs_of}
use Rattle.sn_def.specs.declared.arrays.Run.{Run}
use Rattle.sn_def.specs.declared.version.Version.{Version}
use Rattle.sn_def.specs.Versions.{title}
use Rattle.sn_def.specs.Grammar.{line, ControlLine, control_fields, output_fields, unit_fields}
use Rattle.sn_def.specs.Printing.{version_for, values_printed, first_name, control_printed, array_printed, controls_printed, input_printed, unit_printed, units_printed, print_of}

pub flat_map-map : {X Y : Type 0} (f : Y → List ℕ) (g : X → Y) (xs : List X) → flat_map f (map g xs) ≡ flat_map (λ x. f (g x)) xs
flat_map-map f g [] = refl
flat_map-map f g (x ∷ xs) = ap (λ (t : List ℕ). f (g x) ++ t) (flat_map-map f g xs)

-- a field and a space
abbrev pub spaced : List ℕ → List ℕ
spaced f = f ++ 32 ∷ []

pub outputs_text : (names : List Octets) (t a b : List ℕ) → (length names == 0) ≡ false → a ≡ t ++ flat_map (λ n. n.bytes ++ 32 ∷ []) names → b ≡ a ++ 61 ∷ 32 ∷ []
    → b ≡ t ++ flat_map (λ f. f ++ 32 ∷ []) (output_fields (map (λ n. n.bytes) names))
outputs_text [] t a b h i j = cc
outputs_text (n ∷ ns) t a b h i j =
    let all : List (List ℕ) = map (λ (n : Octets). n.bytes) (n ∷ ns) in
    let written : flat_map spaced (all ++ codes "=" ∷ []) ≡ flat_map (λ (n : Octets). n.bytes ++ 32 ∷ []) (n ∷ ns) ++ 61 ∷ 32 ∷ [] =
    flat_map-append spaced all (codes "=" ∷ []) ∙ ap (λ (u : List ℕ). u ++ 61 ∷ 32 ∷ []) (flat_map-map spaced (λ (n : Octets). n.bytes) (n ∷ ns)) in
    j ∙ ap (λ (u : List ℕ). u ++ 61 ∷ 32 ∷ []) i ∙ append_assoc t (flat_map (λ (n : Octets). n.bytes ++ 32 ∷ []) (n ∷ ns)) (61 ∷ 32 ∷ []) ∙ ap (λ (u : List ℕ). t ++ u) (sym written)

name_of_first : (ps : List Param) (k : ℕ) → unwrap_or (option_map (λ p. p.name.bytes) (slice_get ps k)) [] ≡ unwrap_or (slice_get (map (λ (c : Parameter). c.name) (map parameter_of ps)) k) []
name_of_first [] k = refl
name_of_first (p ∷ ps) zero = refl
name_of_first (p ∷ ps) (suc k) = name_of_first ps k

pub name_of : (ps : List Param) (cs : List Parameter) (k : ℕ) → map parameter_of ps ≡ cs → unwrap_or (option_map (λ p. p.name.bytes) (slice_get ps k)) [] ≡ unwrap_or (slice_get (map (λ (c : Parameter). c.name) cs) k) []
name_of ps cs k is = name_of_first ps k ∙ ap (λ (qs : List Parameter). unwrap_or (slice_get (map (λ (c : Parameter). c.name) qs) k) []) is

join_first : (x : List ℕ) (rest : List (List ℕ)) → 0 < length rest → join_with_byte 32 (x ∷ rest) ≡ spaced x ++ join_with_byte 32 rest
join_first x [] h = absurd (omega arith)
join_first x (y ∷ ys) h = sym (append_assoc x (32 ∷ []) (join_with_byte 32 (y ∷ ys)))

join_front : (fs : List (List ℕ)) (x : List ℕ) (xs : List (List ℕ)) → join_with_byte 32 (fs ++ x ∷ xs) ≡ flat_map spaced fs ++ join_with_byte 32 (x ∷ xs)
join_front [] x xs = refl
join_front (f ∷ fs) x xs =
    join_first f (fs ++ x ∷ xs) (omega (arith, length-append fs (x ∷ xs))) ∙ ap (λ (t : List ℕ). spaced f ++ t) (join_front fs x xs) ∙ sym (append_assoc (spaced f) (flat_map spaced fs) (join_with_byte 32 (x ∷ xs)))

join_back : {X : Type 0} (g : X → List ℕ) (x : List ℕ) (ys : List X) → join_with_byte 32 (x ∷ map g ys) ≡ x ++ flat_map (λ y. 32 ∷ g y) ys
join_back g x [] = sym (append-nil x)
join_back g x (y ∷ ys) = ap (λ (t : List ℕ). x ++ 32 ∷ t) (join_back g (g y) ys)

-- the line of an array
values_from : (ps : List Param) → values_printed (map parameter_of ps) ≡ map (λ p. signed_decimal p.default) ps
values_from [] = refl
values_from (p ∷ ps) = ap (λ (l : List (List ℕ)). signed_decimal p.default ∷ l) (values_from ps)

pub array_text : (ps : List Param) (t a b i e name : List ℕ) → name ≡ first_name (map parameter_of ps) → a ≡ t ++ codes "array " → b ≡ a ++ name → i ≡ b ++ flat_map (λ c. 32 ∷ signed_decimal c.default) ps → e ≡ i ++ 10 ∷ []
    → e ≡ t ++ line (control_fields (array_printed (map parameter_of ps)))
array_text ps t a b i e name is ha hb hi he =
    let first : List ℕ = first_name (map parameter_of ps) in
    let back : List ℕ = flat_map (λ c. 32 ∷ signed_decimal c.default) ps in
    let values : join_with_byte 32 (first ∷ values_printed (map parameter_of ps)) ≡ first ++ back =
    ap (λ (vs : List (List ℕ)). join_with_byte 32 (first ∷ vs)) (values_from ps) ∙ join_back (λ (c : Param). signed_decimal c.default) first ps in
    let written : join_with_byte 32 (control_fields (array_printed (map parameter_of ps))) ≡ codes "array " ++ (first ++ back) =
    join_first (codes "array") (first ∷ values_printed (map parameter_of ps)) (omega arith) ∙ ap (λ (s : List ℕ). codes "array " ++ s) values in
    let so_far : i ≡ t ++ (codes "array " ++ (first ++ back)) =
    hi ∙ ap (λ (s : List ℕ). s ++ back) (hb ∙ ap (λ (s : List ℕ). s ++ name) ha ∙ ap (λ (s : List ℕ). (t ++ codes "array ") ++ s) is)
    ∙ append_assoc (t ++ codes "array ") first back ∙ append_assoc t (codes "array ") (first ++ back) in
    he ∙ ap (λ (s : List ℕ). s ++ 10 ∷ []) (so_far ∙ ap (λ (s : List ℕ). t ++ s) (sym written)) ∙ append_assoc t _ (10 ∷ [])

pub unit_text : (d : Definition) (outputs : List (List ℕ)) (u : UnitLine) (t a b i e row : List ℕ) → row ≡ (row_of u.kind).name → a ≡ t ++ flat_map (λ f. f ++ 32 ∷ []) (output_fields outputs) → b ≡ a ++ row → i ≡ b ++ flat_map (λ x. 32 ∷ input_printed d x) u.inputs
    → e ≡ i ++ 10 ∷ [] → e ≡ t ++ line (unit_fields (unit_printed d outputs u))
unit_text d outputs u t a b i e row is ha hb hi he =
    let name : List ℕ = (row_of u.kind).name in
    let front : List ℕ = flat_map spaced (output_fields outputs) in
    let back : List ℕ = flat_map (λ x. 32 ∷ input_printed d x) u.inputs in
    let written : join_with_byte 32 (output_fields outputs ++ name ∷ map (input_printed d) u.inputs) ≡ front ++ (name ++ back) =
    join_front (output_fields outputs) name (map (input_printed d) u.inputs) ∙ ap (λ (s : List ℕ). front ++ s) (join_back (input_printed d) name u.inputs) in
    let so_far : i ≡ t ++ (front ++ (name ++ back)) =
    hi ∙ ap (λ (s : List ℕ). s ++ back) (hb ∙ ap (λ (s : List ℕ). s ++ row) ha ∙ ap (λ (s : List ℕ). (t ++ front) ++ s) is)
    ∙ append_assoc (t ++ front) name back ∙ append_assoc t front (name ++ back) in
    he ∙ ap (λ (s : List ℕ). s ++ 10 ∷ []) (so_far ∙ ap (λ (s : List ℕ). t ++ s) (sym written)) ∙ append_assoc t _ (10 ∷ [])

-- one unit more
pub units_room : (us : List UnitLine) (u : UnitLine) (i first many : ℕ) → i < length us → u ≡ get_or us i u → first + outputs_of (drop i us) ≤ many → first + u.outputs + outputs_of (drop (i + 1) us) ≤ many
units_room us u i first many lt is h =
    let at : drop i us ≡ u ∷ drop (i + 1) us = drop_more us i u lt ∙ ap (λ (v : UnitLine). v ∷ drop (i + 1) us) (sym is) in
    let sum : outputs_of (drop i us) ≡ u.outputs + outputs_of (drop (i + 1) us) = ap outputs_of at in
    omega arith

pub units_text : (d : Definition) (names part : List Octets) (us : List UnitLine) (u : UnitLine) (i first : ℕ) (t n total : List ℕ) → i < length us → u ≡ get_or us i u → part ≡ take u.outputs (drop first names)
    → n ≡ t ++ line (unit_fields (unit_printed d (map (λ n. n.bytes) part) u))
    → t ++ flat_map (λ p. line (unit_fields p)) (units_printed d (map (λ n. n.bytes) (drop first names)) (drop i us)) ≡ total
    → n ++ flat_map (λ p. line (unit_fields p)) (units_printed d (map (λ n. n.bytes) (drop (first + u.outputs) names)) (drop (i + 1) us)) ≡ total
units_text d names part us u i first t n total lt is cut made so_far =
    let bytes : List Octets → List (List ℕ) = map (λ (o : Octets). o.bytes) in
    let at : drop i us ≡ u ∷ drop (i + 1) us = drop_more us i u lt ∙ ap (λ (v : UnitLine). v ∷ drop (i + 1) us) (sym is) in
    let here : bytes part ≡ take u.outputs (bytes (drop first names)) = ap bytes cut ∙ sym (take-map (λ (o : Octets). o.bytes) u.outputs (drop first names)) in
    let later : bytes (drop (first + u.outputs) names) ≡ drop u.outputs (bytes (drop first names)) =
    ap bytes (sym (drop-drop u.outputs first names)) ∙ sym (drop-map (λ (o : Octets). o.bytes) u.outputs (drop first names)) in
    let one : List ℕ = line (unit_fields (unit_printed d (take u.outputs (bytes (drop first names))) u)) in
    let rest : List ℕ = flat_map (λ p. line (unit_fields p)) (units_printed d (drop u.outputs (bytes (drop first names))) (drop (i + 1) us)) in
    ap (λ (ws : List (List ℕ)). n ++ flat_map (λ p. line (unit_fields p)) (units_printed d ws (drop (i + 1) us))) later
    ∙ ap (λ (s : List ℕ). s ++ rest) (made ∙ ap (λ (ws : List (List ℕ)). t ++ line (unit_fields (unit_printed d ws u))) here)
    ∙ append_assoc t one rest
    ∙ ap (λ (vs : List UnitLine). t ++ flat_map (λ p. line (unit_fields p)) (units_printed d (bytes (drop first names)) vs)) (sym at)
    ∙ so_far

-- ---- lines of controls

plain_lines : (ps : List Param) → flat_map (λ c. line (control_fields c)) (map control_printed (map parameter_of ps)) ≡ flat_map (λ c. line (control_fields (control_printed (parameter_of c)))) ps
plain_lines [] = refl
plain_lines (p ∷ ps) = ap (λ (s : List ℕ). line (control_fields (control_printed (parameter_of p))) ++ s) (plain_lines ps)

-- an array that fits stands after those before it, within the controls
pub runs_within : (from controls : ℕ) (rs : List Run) → RunsFit from controls rs → from ≤ controls
runs_within from controls [] h = h
runs_within from controls (r ∷ rs) h = omega (arith, h.0, runs_within (r.first + r.len) controls rs h.3)

first_fits : (r : Run) (rs : List Run) (next controls : ℕ) → RunsFit next controls (r ∷ rs) → (next ≤ r.first) × (r.first + r.len ≤ controls) × RunsFit (r.first + r.len) controls rs
first_fits r rs next controls h = (h.0, runs_within (r.first + r.len) controls rs h.3, h.3)

pub run_fits : (rs : List Run) (i : ℕ) (r q : Run) (next controls : ℕ) → i < length rs → r ≡ get_or rs i q → RunsFit next controls (drop i rs) → (next ≤ r.first) × (r.first + r.len ≤ controls) × RunsFit (r.first + r.len) controls (drop (i + 1) rs)
run_fits rs i r q next controls lt is h =
    first_fits r (drop (i + 1) rs) next controls (subst (RunsFit next controls) (drop_more rs i q lt ∙ ap (λ (s : Run). s ∷ drop (i + 1) rs) (sym is)) h)

-- an array's line after those of the controls before it
pub run_text : (ps : List Param) (r : Run) (width : ℕ) (t a n front : List ℕ) → width ≡ r.len → a ≡ t ++ front → n ≡ a ++ line (control_fields (array_printed (map parameter_of (take width (drop r.first ps)))))
    → n ≡ (t ++ front) ++ line (control_fields (array_printed (map parameter_of (take r.len (drop r.first ps)))))
run_text ps r width t a n front wide ha hn =
    hn ∙ ap (λ (s : List ℕ). s ++ line (control_fields (array_printed (map parameter_of (take width (drop r.first ps)))))) ha
    ∙ ap (λ (k : ℕ). (t ++ front) ++ line (control_fields (array_printed (map parameter_of (take k (drop r.first ps)))))) wide

-- one array more, and the controls before it
pub arrays_text : (ps front part : List Param) (rs : List Run) (r q : Run) (i next : ℕ) (t a n total : List ℕ) → i < length rs → r ≡ get_or rs i q → next ≤ r.first → front ≡ take (r.first - next) (drop next ps) → part ≡ take r.len (drop r.first ps)
    → a ≡ t ++ flat_map (λ c. line (control_fields (control_printed (parameter_of c)))) front → n ≡ a ++ line (control_fields (array_printed (map parameter_of part)))
    → t ++ flat_map (λ c. line (control_fields c)) (controls_printed next (map parameter_of (drop next ps)) (drop i rs)) ≡ total
    → n ++ flat_map (λ c. line (control_fields c)) (controls_printed (r.first + r.len) (map parameter_of (drop (r.first + r.len) ps)) (drop (i + 1) rs)) ≡ total
arrays_text ps front part rs r q i next t a n total lt is le hf hp ha hn so_far =
    let seen : List Param → List Parameter = map parameter_of in
    let k : ℕ = r.first - next in
    let rest : List Parameter = seen (drop next ps) in
    let at : drop i rs ≡ r ∷ drop (i + 1) rs = drop_more rs i q lt ∙ ap (λ (s : Run). s ∷ drop (i + 1) rs) (sym is) in
    let here : seen front ≡ take k rest = ap seen hf ∙ sym (take-map parameter_of k (drop next ps)) in
    let far : drop k (drop next ps) ≡ drop r.first ps = drop-drop k next ps ∙ ap (λ (m : ℕ). drop m ps) (omega arith) in
    let mid : seen part ≡ take r.len (drop k rest) = ap seen hp ∙ sym (take-map parameter_of r.len (drop r.first ps)) ∙ ap (take r.len) (ap seen (sym far) ∙ sym (drop-map parameter_of k (drop next ps))) in
    let later : seen (drop (r.first + r.len) ps) ≡ drop (k + r.len) rest =
    ap seen (ap (λ (m : ℕ). drop m ps) (omega arith) ∙ sym (drop-drop (k + r.len) next ps)) ∙ sym (drop-map parameter_of (k + r.len) (drop next ps)) in
    let write = λ (c : ControlLine). line (control_fields c) in
    let plain : List ControlLine = map control_printed (take k rest) in
    let array : ControlLine = array_printed (take r.len (drop k rest)) in
    let others : List ControlLine = controls_printed (r.first + r.len) (drop (k + r.len) rest) (drop (i + 1) rs) in
    let fronts : a ≡ t ++ flat_map write plain = ha ∙ ap (λ (s : List ℕ). t ++ s) (sym (plain_lines front) ∙ ap (λ (qs : List Parameter). flat_map write (map control_printed qs)) here) in
    ap (λ (qs : List Parameter). n ++ flat_map write (controls_printed (r.first + r.len) qs (drop (i + 1) rs))) later
    ∙ ap (λ (s : List ℕ). s ++ flat_map write others) (hn ∙ ap (λ (s : List ℕ). s ++ line (control_fields (array_printed (seen part)))) fronts ∙ ap (λ (qs : List Parameter). (t ++ flat_map write plain) ++ line (control_fields (array_printed qs))) mid)
    ∙ append_assoc (t ++ flat_map write plain) (write array) (flat_map write others)
    ∙ append_assoc t (flat_map write plain) (write array ++ flat_map write others)
    ∙ ap (λ (s : List ℕ). t ++ s) (sym (flat_map-append write plain (array ∷ others)))
    ∙ ap (λ (qs : List Run). t ++ flat_map write (controls_printed next rest qs)) (sym at)
    ∙ so_far

-- the controls after the last array
pub last_text : (ps back : List Param) (rs : List Run) (i next : ℕ) (t e total : List ℕ) → length rs ≤ i → back ≡ drop next ps → e ≡ t ++ flat_map (λ c. line (control_fields (control_printed (parameter_of c)))) back
    → t ++ flat_map (λ c. line (control_fields c)) (controls_printed next (map parameter_of (drop next ps)) (drop i rs)) ≡ total → e ≡ total
last_text ps back rs i next t e total le hb he so_far =
    he ∙ ap (λ (s : List ℕ). t ++ s) (sym (plain_lines back))
    ∙ ap (λ (qs : List Param). t ++ flat_map (λ c. line (control_fields c)) (map control_printed (map parameter_of qs))) hb
    ∙ ap (λ (qs : List Run). t ++ flat_map (λ c. line (control_fields c)) (controls_printed next (map parameter_of (drop next ps)) qs)) (sym (drop_all i rs le))
    ∙ so_far

-- all pieces
pub whole_print : (d : Definition) (params : List Param) (arrays : List Run) (names : List Octets) (us : List UnitLine) (v : Version) (c0 c1 c2 c3 name : List ℕ) → map parameter_of params ≡ d.controls → arrays ≡ d.arrays → map (λ n. n.bytes) names ≡ d.wires → us ≡ d.units → name ≡ d.name
    → v ≡ version_for d.arrays (length d.controls) → c0 ≡ (title v ++ 10 ∷ []) ++ line (codes "def" ∷ name ∷ []) → c1 ≡ c0 ++ flat_map (λ c. line (control_fields c)) (controls_printed 0 (map parameter_of params) arrays)
    → c2 ≡ c1 ++ flat_map (λ p. line (unit_fields p)) (units_printed d (map (λ n. n.bytes) names) us) → c3 ≡ c2 ++ (codes "end" ++ 10 ∷ []) → c3 ≡ print_of d
unfolding print_of
whole_print d params arrays names us v c0 c1 c2 c3 name controls runs wires units named is h0 h1 h2 h3 =
    let printed : List ℕ = flat_map (λ c. line (control_fields c)) (controls_printed 0 d.controls d.arrays) in
    let lines : List ℕ = flat_map (λ p. line (unit_fields p)) (units_printed d d.wires d.units) in
    let end : List ℕ = codes "end" ++ 10 ∷ [] in
    let w : Version = version_for d.arrays (length d.controls) in
    let first : List ℕ = title w ++ 10 ∷ [] in
    let second : List ℕ = line (codes "def" ∷ d.name ∷ []) in
    let t0 : c0 ≡ first ++ second = h0 ∙ ap (λ (n : List ℕ). (title v ++ 10 ∷ []) ++ line (codes "def" ∷ n ∷ [])) named ∙ ap (λ (x : Version). (title x ++ 10 ∷ []) ++ second) is in
    let e1 : flat_map (λ c. line (control_fields c)) (controls_printed 0 (map parameter_of params) arrays) ≡ printed =
    ap (λ (ps : List Parameter). flat_map (λ c. line (control_fields c)) (controls_printed 0 ps arrays)) controls ∙ ap (λ (rs : List Run). flat_map (λ c. line (control_fields c)) (controls_printed 0 d.controls rs)) runs in
    let e2 : flat_map (λ p. line (unit_fields p)) (units_printed d (map (λ n. n.bytes) names) us) ≡ lines =
    ap (λ (ws : List (List ℕ)). flat_map (λ p. line (unit_fields p)) (units_printed d ws us)) wires ∙ ap (λ (vs : List UnitLine). flat_map (λ p. line (unit_fields p)) (units_printed d d.wires vs)) units in
    let t2 : c2 ≡ ((first ++ second) ++ printed) ++ lines = h2 ∙ ap (λ (t : List ℕ). c1 ++ t) e2 ∙ ap (λ (t : List ℕ). t ++ lines) (h1 ∙ ap (λ (t : List ℕ). c0 ++ t) e1 ∙ ap (λ (t : List ℕ). t ++ printed) t0) in
    h3 ∙ ap (λ (t : List ℕ). t ++ end) t2
    ∙ append_assoc ((first ++ second) ++ printed) lines end ∙ append_assoc (first ++ second) printed (lines ++ end) ∙ append_assoc first second (printed ++ (lines ++ end))
