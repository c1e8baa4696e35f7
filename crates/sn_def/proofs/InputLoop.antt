-- Reading one input for each field, as a loop does.
use Rattle.std.proofs.Common.{◌≡◌, ℕ, ◌+◌, ◌≤◌, ◌<◌, List, [], ◌∷◌, ◌++◌, length, drop, get_or, Result, Ok, Err, refl, sym, ap, ◌∙◌, append_assoc}
use Rattle.std.proofs.lemmas.List.{append-nil, at_drop_more, at_drop_all}
use Rattle.sn_def.specs.declared.fault.DefKind.{DefKind}
use Rattle.sn_def.specs.declared.fault.Refused.{Refused}
use Rattle.sn_def.specs.declared.fault.Refused.TheVariants as refused
use Rattle.sn_def.specs.declared.table.Mark.{Mark}
use Rattle.sn_def.specs.declared.unit.Input.{Input}
use Rattle.sn_def.specs.Definition.{Definition}
use Rattle.sn_def.specs.Reading.{◌>>=◌, mark_at, input_at, inputs_at}
use Rattle.sn_def.specs.Answers.{RefusedAs}

abbrev Read : Type 0
Read = Result (List Input) DefKind

-- what was read before, and what is still read
abbrev pub with_front : List Input → Result (List Input) DefKind → Result (List Input) DefKind
with_front front read = read >>= λ xs. Ok (front ++ xs)

pub no_front : (read : Read) → with_front [] read ≡ read
no_front (Ok xs) = refl
no_front (Err e) = refl

turn : (d : Definition) (marks : List Mark) (fields : List (List ℕ)) (i : ℕ) → i < length fields
    → inputs_at d marks i (drop i fields) ≡ (input_at d (mark_at marks i) (get_or fields i []) >>= λ x. inputs_at d marks (i + 1) (drop (i + 1) fields) >>= λ others. Ok (x ∷ others))
unfolding inputs_at
turn d marks fields i lt = at_drop_more (λ (fs : List (List ℕ)). inputs_at d marks i fs) fields i [] lt

regroup : (front : List Input) (x : Input) (read : Read) → with_front front (read >>= λ others. Ok (x ∷ others)) ≡ with_front (front ++ x ∷ []) read
regroup front x (Ok xs) = let f : List Input → Read = λ ys. Ok ys in ap f (simp append_assoc)
regroup front x (Err e) = refl

pub goes_on : (d : Definition) (marks : List Mark) (front : List Input) (fields : List (List ℕ)) (i : ℕ) (x : Input) (total : Read) → i < length fields → input_at d (mark_at marks i) (get_or fields i []) ≡ Ok x
    → with_front front (inputs_at d marks i (drop i fields)) ≡ total → with_front (front ++ x ∷ []) (inputs_at d marks (i + 1) (drop (i + 1) fields)) ≡ total
goes_on d marks front fields i x total lt read so_far =
    let one : inputs_at d marks i (drop i fields) ≡ (inputs_at d marks (i + 1) (drop (i + 1) fields) >>= λ others. Ok (x ∷ others)) =
    turn d marks fields i lt ∙ ap (λ (r : Result Input DefKind). r >>= λ y. inputs_at d marks (i + 1) (drop (i + 1) fields) >>= λ others. Ok (y ∷ others)) read in
    sym (regroup front x (inputs_at d marks (i + 1) (drop (i + 1) fields))) ∙ sym (ap (with_front front) one) ∙ so_far

pub ends : (e : Refused) (d : Definition) (marks : List Mark) (front : List Input) (fields : List (List ℕ)) (i : ℕ) (total : Read) → i < length fields → RefusedAs e (input_at d (mark_at marks i) (get_or fields i []))
    → with_front front (inputs_at d marks i (drop i fields)) ≡ total → RefusedAs e total
ends refused.NoMemory d marks front fields i total lt h so_far = tt
ends (refused.Because kind) d marks front fields i total lt h so_far =
    let one : inputs_at d marks i (drop i fields) ≡ Err kind = turn d marks fields i lt ∙ ap (λ (r : Result Input DefKind). r >>= λ y. inputs_at d marks (i + 1) (drop (i + 1) fields) >>= λ others. Ok (y ∷ others)) h in
    sym so_far ∙ ap (with_front front) one

pub is_done : (d : Definition) (marks : List Mark) (front : List Input) (fields : List (List ℕ)) (i : ℕ) (total : Read) → length fields ≤ i → with_front front (inputs_at d marks i (drop i fields)) ≡ total → total ≡ Ok front
unfolding inputs_at
is_done d marks front fields i total le so_far =
    let f : List Input → Read = λ xs. Ok xs in
    sym so_far ∙ ap (with_front front) (at_drop_all (λ (fs : List (List ℕ)). inputs_at d marks i fs) fields i le) ∙ ap f (append-nil front)
