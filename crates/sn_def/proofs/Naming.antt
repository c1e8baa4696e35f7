-- What a name stands for after one more control, array or wire.
use Rattle.std.proofs.Common.{◌≡◌, ℕ, ℤ, ◌+◌, ◌<◌, Bool, true, false, cond, List, [], ◌∷◌, ◌++◌, length, Option, Some, None, refl, sym, ap, ◌∙◌, subst, add-one, append_assoc, arith}
use Rattle.std.specs.List.{list_all}
use Rattle.std.specs.Str.{bytes_eq}
use Rattle.std.proofs.lemmas.Bool.{and_parts, and_from}
use Rattle.std.proofs.lemmas.Slice.Eq.{bytes_eq-Decides}
use Rattle.std.proofs.lemmas.List.{map_push, map-append, length-map}
use Rattle.sn_def.specs.declared.unit.Input.{Input}
use Rattle.sn_def.specs.declared.unit.Input.TheVariants.{Control, Wire}
use Rattle.sn_def.specs.Definition.{Definition, Parameter, place_of, one_more, or_else, as_control, as_wire, named, named_only, control_names, elements, with_control, with_array, with_wires}
use Rattle.sn_def.specs.Drafts.{has_point}
use Rattle.sn_def.proofs.Distinct.{absent-from, absent-none, absent-cons, absent_parts}
use Rattle.sn_def.proofs.ElementNames.{behind, behind_pointed, later-element, names_in, other_pointed}

pub named_nothing : (name q : List ℕ) → named (named_only name) q ≡ None
unfolding named place_of
named_nothing name q = refl

pub nothing_known : (name q : List ℕ) (m : Option Input) → m ≡ None → or_else (as_control (place_of q (control_names (named_only name)))) m ≡ named (named_only name) q
unfolding named place_of
nothing_known name q m h = h

-- where a name stands after n is put at the end
abbrev after : Option ℕ → Bool → ℕ → Option ℕ
after (Some k) same len = Some k
after None same len = cond same (Some len) None

one_more-after : (o : Option ℕ) (same : Bool) (len : ℕ) → one_more (after o same len) ≡ after (one_more o) same (len + 1)
one_more-after (Some k) same len = refl
one_more-after None true len = refl
one_more-after None false len = refl

after-cond : (here same : Bool) (o : Option ℕ) (len : ℕ) → cond here (Some 0) (one_more (after o same len)) ≡ after (cond here (Some 0) (one_more o)) same (len + 1)
after-cond true same o len = refl
after-cond false same o len = one_more-after o same len

pub place_of-push : (q n : List ℕ) (names : List (List ℕ)) → place_of q (names ++ n ∷ []) ≡ after (place_of q names) (bytes_eq n q) (length names)
unfolding place_of
place_of-push q n [] = elim (bytes_eq n q) as (λ b. cond b (Some 0) (one_more None) ≡ cond b (Some 0) None) [ true ↦ refl | false ↦ refl ]
place_of-push q n (m ∷ names) = ap (λ o. cond (bytes_eq m q) (Some 0) (one_more o)) (place_of-push q n names) ∙ after-cond (bytes_eq m q) (bytes_eq n q) (place_of q names) (length names) ∙ ap (λ (k : ℕ). after (cond (bytes_eq m q) (Some 0) (one_more (place_of q names))) (bytes_eq n q) k) (add-one (length names))

pub no_control : (a b : Option ℕ) → or_else (as_control a) (as_wire b) ≡ None → a ≡ None
no_control None b h = refl
no_control (Some k) b h = cc

pub no_wire : (a b : Option ℕ) → or_else (as_control a) (as_wire b) ≡ None → b ≡ None
no_wire None None h = refl
no_wire None (Some k) h = cc
no_wire (Some k) b h = cc

abbrev Nothing : Bool → Option ℕ → Type 0
Nothing same o = same ≡ true → o ≡ None

one_control : (o : Option ℕ) (w : Option Input) (same : Bool) (len : ℕ) → Nothing same o → or_else (as_control (after o same len)) w ≡ cond same (Some (Control len)) (or_else (as_control o) w)
one_control (Some k) w true len h = let e : Some k ≡ None = h refl in cc
one_control (Some k) w false len h = refl
one_control None w true len h = refl
one_control None w false len h = refl

one_wire : (o p : Option ℕ) (same : Bool) (len : ℕ) → Nothing same o → Nothing same p → or_else (as_control o) (as_wire (after p same len)) ≡ cond same (Some (Wire len)) (or_else (as_control o) (as_wire p))
one_wire (Some k) p true len h i = let e : Some k ≡ None = h refl in cc
one_wire (Some k) p false len h i = refl
one_wire None (Some k) true len h i = let e : Some k ≡ None = i refl in cc
one_wire None (Some k) false len h i = refl
one_wire None None true len h i = refl
one_wire None None false len h i = refl

-- what has the name n has nothing at an equal name
nothing : (n q : List ℕ) (names : List (List ℕ)) → place_of n names ≡ None → Nothing (bytes_eq n q) (place_of q names)
nothing n q names none same = subst (λ (m : List ℕ). place_of m names ≡ None) ((bytes_eq-Decides n q).0 same) none

pub named-control : (d : Definition) (n : List ℕ) (v : ℤ) → named d n ≡ None → (q : List ℕ) → named (with_control d n v) q ≡ cond (bytes_eq n q) (Some (Control (length d.controls))) (named d q)
unfolding named
named-control d n v fresh q =
    let none = nothing n q (control_names d) (no_control _ _ fresh) in
    ap (λ (names : List (List ℕ)). or_else (as_control (place_of q names)) (as_wire (place_of q d.wires))) (map_push (λ (c : Parameter). c.name) d.controls (record { name = n; default = v }))
    ∙ ap (λ (o : Option ℕ). or_else (as_control o) (as_wire (place_of q d.wires))) (place_of-push q n (control_names d))
    ∙ one_control (place_of q (control_names d)) (as_wire (place_of q d.wires)) (bytes_eq n q) (length (control_names d)) none
    ∙ ap (λ (k : ℕ). cond (bytes_eq n q) (Some (Control k)) (or_else (as_control (place_of q (control_names d))) (as_wire (place_of q d.wires)))) (length-map d.controls (λ (c : Parameter). c.name))

pub named-wire : (d : Definition) (n : List ℕ) → named d n ≡ None → (q : List ℕ) → named (with_wires d (n ∷ [])) q ≡ cond (bytes_eq n q) (Some (Wire (length d.wires))) (named d q)
unfolding named
named-wire d n fresh q =
    ap (λ (o : Option ℕ). or_else (as_control (place_of q (control_names d))) (as_wire o)) (place_of-push q n d.wires)
    ∙ one_wire (place_of q (control_names d)) (place_of q d.wires) (bytes_eq n q) (length d.wires) (nothing n q (control_names d) (no_control _ _ fresh)) (nothing n q d.wires (no_wire _ _ fresh))

-- ---- an array

elements_pointed : (n : List ℕ) (k : ℕ) (vs : List ℤ) → 0 < k → list_all has_point (names_in (elements n k vs)) ≡ true
elements_pointed n k [] some = refl
elements_pointed n k (x ∷ vs) some =
    let pointed : list_all has_point (behind n k ∷ names_in (elements n (k + 1) vs)) ≡ true =
    and_from (has_point (behind n k)) (list_all has_point (names_in (elements n (k + 1) vs))) (behind_pointed n k) (elements_pointed n (k + 1) vs (omega arith)) in
    subst (λ (m : List ℕ). list_all has_point (m ∷ names_in (elements n (k + 1) vs)) ≡ true) (sym (later-element n k some)) pointed

none_pointed : (q : List ℕ) (ms : List (List ℕ)) → has_point q ≡ false → list_all has_point ms ≡ true → place_of q ms ≡ None
none_pointed q [] plain h = absent-none q
none_pointed q (m ∷ ms) plain h =
    let p = and_parts (has_point m) (list_all has_point ms) h in
    absent-from q m ms (other_pointed m q p.0 plain).0 (none_pointed q ms plain p.1)

-- names with a point do not hide one without
place_of-pointed : (q : List ℕ) (ns ms : List (List ℕ)) → has_point q ≡ false → list_all has_point ms ≡ true → place_of q (ns ++ ms) ≡ place_of q ns
unfolding place_of
place_of-pointed q [] ms plain h = none_pointed q ms plain h
place_of-pointed q (n ∷ ns) ms plain h = ap (λ (o : Option ℕ). cond (bytes_eq n q) (Some 0) (one_more o)) (place_of-pointed q ns ms plain h)

pub array_names : (d : Definition) (n : List ℕ) (vs : List ℤ) → control_names (with_array d n vs) ≡ control_names d ++ names_in (elements n 0 vs)
array_names d n vs = map-append (λ (c : Parameter). c.name) d.controls (elements n 0 vs)

named-first : (d : Definition) (n : List ℕ) (x : ℤ) (xs : List ℤ) → named d n ≡ None → (q : List ℕ) → has_point q ≡ false → named (with_array d n (x ∷ xs)) q ≡ named (with_control d n x) q
unfolding named
named-first d n x xs fresh q plain =
    let es : List (List ℕ) = names_in (elements n 1 xs) in
    let wires : Option Input = as_wire (place_of q d.wires) in
    let all : control_names (with_array d n (x ∷ xs)) ≡ (control_names d ++ n ∷ []) ++ es = array_names d n (x ∷ xs) ∙ sym (append_assoc (control_names d) (n ∷ []) es) in
    let one : control_names (with_control d n x) ≡ control_names d ++ n ∷ [] = map_push (λ (c : Parameter). c.name) d.controls (record { name = n; default = x }) in
    ap (λ (o : Option ℕ). or_else (as_control o) wires)
    (ap (place_of q) all ∙ place_of-pointed q (control_names d ++ n ∷ []) es plain (elements_pointed n 1 xs (omega arith)) ∙ ap (place_of q) (sym one))

pub named-array : (d : Definition) (n : List ℕ) (vs : List ℤ) → 0 < length vs → named d n ≡ None → (q : List ℕ) → has_point q ≡ false → named (with_array d n vs) q ≡ cond (bytes_eq n q) (Some (Control (length d.controls))) (named d q)
named-array d n [] some fresh q plain = absurd (omega arith)
named-array d n (x ∷ xs) some fresh q plain = named-first d n x xs fresh q plain ∙ named-control d n x fresh q

-- ---- by a map that knows wires and names without a point

by_place : (a : Option ℕ) (m w : Option Input) → (a ≡ None → m ≡ w) → or_else (as_control a) m ≡ or_else (as_control a) w
by_place (Some k) m w h = refl
by_place None m w h = h refl

its_wire : (a : Option ℕ) (m w : Option Input) → a ≡ None → or_else (as_control a) m ≡ or_else (as_control a) w → m ≡ w
its_wire (Some k) m w none h = cc
its_wire None m w none h = h

-- a name that the controls have not stands for a wire, or is in the map for it
pub known_wire : (d : Definition) (q : List ℕ) (m : Option Input) → or_else (as_control (place_of q (control_names d))) m ≡ named d q → place_of q (control_names d) ≡ None → m ≡ as_wire (place_of q d.wires)
unfolding named
known_wire d q m h none = its_wire (place_of q (control_names d)) m (as_wire (place_of q d.wires)) none h

not_that : (n q : List ℕ) (x : Option Input) (m : Option Input) → bytes_eq n q ≡ false → cond (bytes_eq n q) x m ≡ m
not_that n q x m h = rw h refl

-- controls more, the first of them with the name n
pub known-more : (d e : Definition) (n : List ℕ) (later : List (List ℕ)) (q : List ℕ) (x m new : Option Input) → control_names e ≡ control_names d ++ n ∷ later → e.wires ≡ d.wires → new ≡ cond (bytes_eq n q) x m
    → or_else (as_control (place_of q (control_names d))) m ≡ named d q → or_else (as_control (place_of q (control_names e))) new ≡ named e q
unfolding named
known-more d e n later q x m new names wires adds h =
    by_place (place_of q (control_names e)) new (as_wire (place_of q e.wires)) (λ none.
    let p = absent_parts q (control_names d) (n ∷ later) (ap (place_of q) (sym names) ∙ none) in
    adds ∙ not_that n q x m (absent-cons q n later p.1).0 ∙ known_wire d q m h p.0 ∙ ap (λ (ws : List (List ℕ)). as_wire (place_of q ws)) (sym wires))

wire_more : (p : Option ℕ) (same : Bool) (len : ℕ) → Nothing same p → cond same (Some (Wire len)) (as_wire p) ≡ as_wire (after p same len)
wire_more (Some k) true len h = let e : Some k ≡ None = h refl in cc
wire_more (Some k) false len h = refl
wire_more None true len h = refl
wire_more None false len h = refl

pub known-wire : (d : Definition) (n q : List ℕ) (m new : Option Input) → named d n ≡ None → new ≡ cond (bytes_eq n q) (Some (Wire (length d.wires))) m → or_else (as_control (place_of q (control_names d))) m ≡ named d q
    → or_else (as_control (place_of q (control_names d))) new ≡ named (with_wires d (n ∷ [])) q
unfolding named
known-wire d n q m new fresh adds h =
    by_place (place_of q (control_names d)) new (as_wire (place_of q (d.wires ++ n ∷ []))) (λ none.
    adds ∙ ap (λ (o : Option Input). cond (bytes_eq n q) (Some (Wire (length d.wires))) o) (known_wire d q m h none)
    ∙ wire_more (place_of q d.wires) (bytes_eq n q) (length d.wires) (nothing n q d.wires (no_wire _ _ fresh))
    ∙ ap as_wire (sym (place_of-push q n d.wires)))
