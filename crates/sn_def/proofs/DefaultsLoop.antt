-- Reading one literal for each field, as a loop does.
use Rattle.std.proofs.Common.{◌≡◌, ℕ, ℤ, ◌+◌, ◌≤◌, ◌<◌, List, [], ◌∷◌, ◌++◌, length, drop, get_or, Result, Ok, Err, refl, sym, ap, ◌∙◌, append_assoc}
use Rattle.std.proofs.lemmas.List.{append-nil, at_drop_more, at_drop_all}
use Rattle.sn_fixed.specs.Literal.{literal}
use Rattle.sn_def.specs.declared.fault.DefKind.{DefKind}
use Rattle.sn_def.specs.declared.fault.Refused.{Refused}
use Rattle.sn_def.specs.declared.fault.Refused.TheVariants as refused
use Rattle.sn_def.specs.Reading.{◌>>=◌, default_of, defaults_at}
use Rattle.sn_def.specs.Answers.{RefusedAs}

abbrev Read : Type 0
Read = Result (List ℤ) DefKind

-- what was read before, and what is still read
abbrev pub with_front : List ℤ → Read → Read
with_front front read = read >>= λ vs. Ok (front ++ vs)

pub no_front : (read : Read) → with_front [] read ≡ read
no_front (Ok vs) = refl
no_front (Err e) = refl

turn : (fields : List (List ℕ)) (i : ℕ) → i < length fields
    → defaults_at (drop i fields) ≡ (default_of (literal (get_or fields i [])) >>= λ v. defaults_at (drop (i + 1) fields) >>= λ others. Ok (v ∷ others))
unfolding defaults_at
turn fields i lt = at_drop_more (λ (fs : List (List ℕ)). defaults_at fs) fields i [] lt

regroup : (front : List ℤ) (v : ℤ) (read : Read) → with_front front (read >>= λ others. Ok (v ∷ others)) ≡ with_front (front ++ v ∷ []) read
regroup front v (Ok vs) = let f : List ℤ → Read = λ ys. Ok ys in ap f (simp append_assoc)
regroup front v (Err e) = refl

pub goes_on : (front : List ℤ) (fields : List (List ℕ)) (i : ℕ) (v : ℤ) (total : Read) → i < length fields → default_of (literal (get_or fields i [])) ≡ Ok v → with_front front (defaults_at (drop i fields)) ≡ total
    → with_front (front ++ v ∷ []) (defaults_at (drop (i + 1) fields)) ≡ total
goes_on front fields i v total lt read so_far =
    let one : defaults_at (drop i fields) ≡ (defaults_at (drop (i + 1) fields) >>= λ others. Ok (v ∷ others)) =
    turn fields i lt ∙ ap (λ (r : Result ℤ DefKind). r >>= λ w. defaults_at (drop (i + 1) fields) >>= λ others. Ok (w ∷ others)) read in
    sym (regroup front v (defaults_at (drop (i + 1) fields))) ∙ sym (ap (with_front front) one) ∙ so_far

pub ends : (e : Refused) (front : List ℤ) (fields : List (List ℕ)) (i : ℕ) (total : Read) → i < length fields → RefusedAs e (default_of (literal (get_or fields i []))) → with_front front (defaults_at (drop i fields)) ≡ total → RefusedAs e total
ends refused.NoMemory front fields i total lt h so_far = tt
ends (refused.Because kind) front fields i total lt h so_far =
    let one : defaults_at (drop i fields) ≡ Err kind = turn fields i lt ∙ ap (λ (r : Result ℤ DefKind). r >>= λ w. defaults_at (drop (i + 1) fields) >>= λ others. Ok (w ∷ others)) h in
    sym so_far ∙ ap (with_front front) one

pub is_done : (front : List ℤ) (fields : List (List ℕ)) (i : ℕ) (total : Read) → length fields ≤ i → with_front front (defaults_at (drop i fields)) ≡ total → total ≡ Ok front
unfolding defaults_at
is_done front fields i total le so_far =
    let f : List ℤ → Read = λ vs. Ok vs in
    sym so_far ∙ ap (with_front front) (at_drop_all (λ (fs : List (List ℕ)). defaults_at fs) fields i le) ∙ ap f (append-nil front)
