-- One more frame.
use Rattle.std.proofs.Common.{◌≡◌, ◌<◌, ℕ, ◌+◌, List, [], ◌∷◌, ◌++◌, ℤ, Option, None, length, get_or, set, take, refl, ap, sym, ◌∙◌, add-one, length-set}
use Rattle.std.proofs.Math.Seq.{take-length}
use Rattle.std.proofs.lemmas.List.{take_more_set}
use Rattle.sn_mem.specs.Blocks.{table, sample}
use Rattle.sn_mem.proofs.Tables.{table_more}
use Rattle.sn_io.specs.Positions.{walk}
use Rattle.sn_io.specs.BufferUnits.{set_frame, set_at, scattered}

pub walk_none : {S A : Type 0} (step : S → List (List ℤ) → ℕ → S × A) (s : S) (inputs : List (List ℤ)) → walk step s inputs 0 ≡ (s, [])
unfolding walk
walk_none step s inputs = refl

pub walk_more : {S A : Type 0} (step : S → List (List ℤ) → ℕ → S × A) (s : S) (inputs : List (List ℤ)) (k : ℕ) → ◌≡◌ {A = S × List A} (walk step s inputs (k + 1)) (let r = walk step s inputs k in ((step r.0 inputs k).0, r.1 ++ (step r.0 inputs k).1 ∷ []))
unfolding walk
walk_more step s inputs k = rw add-one refl

pub walk_step : {S A : Type 0} (step : S → List (List ℤ) → ℕ → S × A) (s t u : S) (y : A) (inputs : List (List ℤ)) (k : ℕ) (ys : List A) → k < length ys → ◌≡◌ {A = S × List A} (t, take k ys) (walk step s inputs k) → ◌≡◌ {A = S × A} (u, y) (step t inputs k) → ◌≡◌ {A = S × List A} (u, take (k + 1) (set ys k y)) (walk step s inputs (k + 1))
walk_step {S} {A} step s t u y inputs k ys lt e f =
    let a : ◌≡◌ {A = S × List A} (u, take (k + 1) (set ys k y)) (u, take k ys ++ y ∷ []) = ap (λ (zs : List A). (u, zs)) (take_more_set ys k y lt) in
    let b : ◌≡◌ {A = S × List A} (u, take k ys ++ y ∷ []) ((step t inputs k).0, take k ys ++ (step t inputs k).1 ∷ []) = ap (λ (q : S × A). (q.0, take k ys ++ q.1 ∷ [])) f in
    let d : ◌≡◌ {A = S × List A} ((step t inputs k).0, take k ys ++ (step t inputs k).1 ∷ []) (walk step s inputs (k + 1)) = ap (λ (r : S × List A). ((step r.0 inputs k).0, r.1 ++ (step r.0 inputs k).1 ∷ [])) e ∙ sym (walk_more step s inputs k) in
    a ∙ (b ∙ d)

pub long_set : {A : Type 0} (ys : List A) (k : ℕ) (y : A) (n : ℕ) → length ys ≡ n → length (set ys k y) ≡ n
long_set ys k y n e = length-set ys k y ∙ e

-- a table's next item
pub table_next : {A : Type 0} (f : ℕ → A) (ys : List A) (k : ℕ) (y : A) → k < length ys → take k ys ≡ table f k → y ≡ f k → take (k + 1) (set ys k y) ≡ table f (k + 1)
table_next {A} f ys k y lt e h = take_more_set ys k y lt ∙ (ap (λ (xs : List A). xs ++ y ∷ []) e ∙ (ap (λ (x : A). table f k ++ x ∷ []) h ∙ sym (table_more f k)))

pub table_whole : {A : Type 0} (f : ℕ → A) (ys : List A) (k : ℕ) → k ≡ 64 → length ys ≡ 64 → take k ys ≡ table f k → ys ≡ table f 64
table_whole f ys k last long e = sym (ap (λ m. take m ys) (last ∙ sym long) ∙ take-length ys) ∙ (e ∙ ap (table f) last)

-- ---- writing

pub frame_none : {S : Type 0} (put : S → ℕ → ℤ → S) (inputs : List (List ℤ)) (first k place : ℕ) (s : S) → set_frame put inputs first k place 0 s ≡ s
unfolding set_frame
frame_none put inputs first k place s = refl

pub frame_more : {S : Type 0} (put : S → ℕ → ℤ → S) (inputs : List (List ℤ)) (first k place c : ℕ) (s : S) → set_frame put inputs first k place (c + 1) s ≡ put (set_frame put inputs first k place c s) (place + c) (sample inputs (first + c) k)
unfolding set_frame
frame_more put inputs first k place c s = rw add-one refl

pub scattered_none : {S : Type 0} (put : S → ℕ → ℤ → S) (inputs : List (List ℤ)) (first channels : ℕ) (frames : List (Option ℕ)) (s : S) → scattered put inputs first channels frames 0 s ≡ s
unfolding scattered
scattered_none put inputs first channels frames s = refl

pub scattered_more : {S : Type 0} (put : S → ℕ → ℤ → S) (inputs : List (List ℤ)) (first channels : ℕ) (frames : List (Option ℕ)) (k : ℕ) (s : S) → scattered put inputs first channels frames (k + 1) s ≡ set_at put inputs first channels k (get_or frames k None) (scattered put inputs first channels frames k s)
unfolding scattered
scattered_more put inputs first channels frames k s = rw add-one refl
