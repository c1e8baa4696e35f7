-- Giving one wire for each name, as a loop does.
use Rattle.std.proofs.Common.{◌≡◌, ℕ, ◌+◌, ◌≤◌, ◌<◌, true, false, cond, List, [], ◌∷◌, length, drop, get_or, Result, Ok, Err, refl, sym, ◌∙◌}
use Rattle.std.proofs.lemmas.List.{at_drop_more, at_drop_all}
use Rattle.sn_def.specs.declared.fault.DefKind.{DefKind}
use Rattle.sn_def.specs.declared.fault.DefKind.TheVariants as wrong
use Rattle.sn_def.specs.Definition.{Definition, with_wires}
use Rattle.sn_def.specs.Reading.{is_known, wires_at}

turn : (d : Definition) (names : List (List ℕ)) (i : ℕ) → i < length names
    → wires_at d (drop i names) ≡ cond (is_known d (get_or names i [])) (Err wrong.Twice) (wires_at (with_wires d (get_or names i [] ∷ [])) (drop (i + 1) names))
unfolding wires_at
turn d names i lt = at_drop_more (λ (ns : List (List ℕ)). wires_at d ns) names i [] lt

pub wire_twice : (d : Definition) (names : List (List ℕ)) (i : ℕ) (total : Result Definition DefKind) → i < length names → is_known d (get_or names i []) ≡ true → wires_at d (drop i names) ≡ total → total ≡ Err wrong.Twice
wire_twice d names i total lt twice so_far = sym so_far ∙ turn d names i lt ∙ rw twice refl

pub wire_new : (d : Definition) (names : List (List ℕ)) (i : ℕ) (total : Result Definition DefKind) → i < length names → is_known d (get_or names i []) ≡ false → wires_at d (drop i names) ≡ total
    → wires_at (with_wires d (get_or names i [] ∷ [])) (drop (i + 1) names) ≡ total
wire_new d names i total lt fresh so_far = sym (turn d names i lt ∙ rw fresh refl) ∙ so_far

pub wires_done : (d : Definition) (names : List (List ℕ)) (i : ℕ) (total : Result Definition DefKind) → length names ≤ i → wires_at d (drop i names) ≡ total → total ≡ Ok d
unfolding wires_at
wires_done d names i total le so_far = sym so_far ∙ at_drop_all (λ (ns : List (List ℕ)). wires_at d ns) names i le
