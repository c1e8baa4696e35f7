-- Blocks of equal samples.
use Rattle.std.proofs.Common.{◌≡◌, ◌≢◌, ◌<◌, ◌≤◌, ℕ, ◌+◌, List, [], ◌∷◌, ℤ, pos, Bool, true, false, length, get_or, set, take, replicate, sym, subst, ap, ◌∙◌, arith, ⊎_elim, true≢false, get_or-set_same, get_or-set_other, get_or-take}
use Rattle.std.proofs.lemmas.Bool.{cases_eq, cases_lt}
use Rattle.std.proofs.lemmas.List.{take_more_set, get_or-replicate, get_or_past, length-replicate}
use Rattle.std.proofs.lemmas.List.Elements.{All-append, All-cons, All-nil}
use Rattle.sn_mem.specs.Blocks.{IsSteady, AreSteady, AreMarked}

replicate_steady : (v : ℤ) → IsSteady (replicate 64 v)
replicate_steady v k lt = get_or-replicate 64 k v (pos 0) lt ∙ sym (get_or-replicate 64 0 v (pos 0) (omega arith))

-- one more block of equal samples
pub steady_more : (bs : List (List ℤ)) (n : ℕ) (v : ℤ) (xs : List ℤ) → n < length bs → xs ≡ replicate 64 v → AreSteady (take n bs) → AreSteady (take (n + 1) (set bs n xs))
steady_more bs n v xs lt e h =
    subst AreSteady (sym (take_more_set bs n xs lt)) (All-append IsSteady (take n bs) (xs ∷ []) h (All-cons IsSteady xs [] (subst IsSteady (sym e) (replicate_steady v)) (All-nil IsSteady)))

-- a block is its first sample, as often as there are frames
abbrev IsEqual : List ℤ → Type 0
IsEqual xs = xs ≡ replicate 64 (get_or xs 0 (pos 0))

replicate_equal : (v : ℤ) → IsEqual (replicate 64 v)
replicate_equal v = ap (replicate 64) (sym (get_or-replicate 64 0 v (pos 0) (omega arith)))

-- a block of equal samples takes a mark
pub marked : (marks : List Bool) (bs : List (List ℤ)) (n : ℕ) (v : ℤ) (xs : List ℤ) → n < length bs → xs ≡ replicate 64 v → AreMarked marks bs → AreMarked (set marks n true) (set bs n xs)
marked marks bs n v xs lt e h i m = ⊎_elim
    (λ (here : i ≡ n). subst IsEqual (sym (ap (λ k. get_or (set bs n xs) k []) here ∙ (get_or-set_same bs n xs [] lt ∙ e))) (replicate_equal v))
    (λ (other : i ≢ n). subst IsEqual (sym (get_or-set_other bs n i xs [] other)) (h i (sym (get_or-set_other marks n i true false other) ∙ m)))
    (cases_eq i n)

-- without marks
pub no_marks : (k : ℕ) (marks : List Bool) (bs : List (List ℤ)) → marks ≡ replicate k false → AreMarked marks bs
no_marks k marks bs e i m =
    let none : get_or (replicate k false) i false ≡ true = ap (λ ms. get_or ms i false) (sym e) ∙ m in
    ⊎_elim
    (λ (in_row : i < k). absurd (true≢false (sym none ∙ get_or-replicate k i false false in_row)))
    (λ (past : k ≤ i). absurd (true≢false (sym none ∙ get_or_past (replicate k false) i false (rw (length-replicate k false) past))))
    (cases_lt i k)

-- what a block with a mark is
pub equal_block : (marks : List Bool) (bs : List (List ℤ)) (used i : ℕ) → AreMarked marks bs → get_or marks i false ≡ true → i < used → get_or (take used bs) i [] ≡ replicate 64 (get_or (get_or bs i []) 0 (pos 0))
equal_block marks bs used i h m lt = get_or-take used bs i [] lt ∙ h i m
