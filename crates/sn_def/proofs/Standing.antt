-- What a name stands for is there.
use Rattle.std.proofs.Common.{ℕ, ◌+◌, ◌<◌, Bool, true, false, cond, List, [], ◌∷◌, length, Option, Some, None, IfSome, subst, arith}
use Rattle.std.specs.Str.{bytes_eq}
use Rattle.std.proofs.lemmas.List.{length-map}
use Rattle.sn_def.specs.declared.unit.Input.{Input}
use Rattle.sn_def.specs.declared.unit.Input.TheVariants.{Literal, Control, Wire}
use Rattle.sn_def.specs.Definition.{Definition, Parameter, place_of, one_more, or_else, as_control, as_wire, named, control_names}

-- a control or a wire that is there
abbrev pub IsThere : ℕ → ℕ → Input → Type 0
IsThere controls wires (Literal v) = ⊥
IsThere controls wires (Control k) = k < controls
IsThere controls wires (Wire k) = k < wires

one_more-below : (o : Option ℕ) (n : ℕ) → IfSome o (λ k. k < n) → IfSome (one_more o) (λ k. k < n + 1)
one_more-below (Some k) n h = omega arith
one_more-below None n h = tt

first_or : (b : Bool) (o : Option ℕ) (n : ℕ) → IfSome o (λ k. k < n + 1) → IfSome (cond b (Some 0) o) (λ k. k < n + 1)
first_or true o n h = omega arith
first_or false o n h = h

pub place_below : (name : List ℕ) (names : List (List ℕ)) → IfSome (place_of name names) (λ k. k < length names)
unfolding place_of
place_below name [] = tt
place_below name (n ∷ ns) =
    let more : IfSome (cond (bytes_eq n name) (Some 0) (one_more (place_of name ns))) (λ k. k < length ns + 1) = first_or (bytes_eq n name) (one_more (place_of name ns)) (length ns) (one_more-below (place_of name ns) (length ns) (place_below name ns)) in
    subst (λ (m : ℕ). IfSome (cond (bytes_eq n name) (Some 0) (one_more (place_of name ns))) (λ k. k < m)) (omega arith) more

there : (a b : Option ℕ) (c w : ℕ) → IfSome a (λ k. k < c) → IfSome b (λ k. k < w) → IfSome (or_else (as_control a) (as_wire b)) (IsThere c w)
there (Some k) b c w h i = h
there None (Some k) c w h i = i
there None None c w h i = tt

pub named_there : (d : Definition) (name : List ℕ) → IfSome (named d name) (IsThere (length d.controls) (length d.wires))
unfolding named
named_there d name =
    there (place_of name (control_names d)) (place_of name d.wires) (length d.controls) (length d.wires)
    (subst (λ (n : ℕ). IfSome (place_of name (control_names d)) (λ k. k < n)) (length-map d.controls (λ (c : Parameter). c.name)) (place_below name (control_names d)))
    (place_below name d.wires)
