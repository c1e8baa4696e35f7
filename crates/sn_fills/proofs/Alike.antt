-- Fills that set each place alike make the same of a list.
use Rattle.std.proofs.Common.{◌≡◌, ◌≢◌, ◌≤◌, ◌<◌, ◌+◌, ⊎_elim, ℕ, zero, suc, ℤ, List, [], ◌∷◌, length, get_or, Option, Some, None, refl, ap, sym, ◌∙◌, arith}
use Rattle.std.specs.Option.{option_or}
use Rattle.std.proofs.lemmas.Bool.{cases_lt}
use Rattle.std.proofs.lemmas.List.{same_lists}
use Rattle.sn_fills.specs.declared.fill.Fill.{Fill}
use Rattle.sn_fills.specs.Fills.{fill_at, last_at}
use Rattle.sn_fills.proofs.Lying.{set-inside, none-below, none-above}

-- an element after it was set to a value, or was not
abbrev pub given : {A : Type 0} → (A → ℤ → A) → Option ℤ → A → A
given change None a = a
given change (Some v) a = change a v

-- ---- one place after the other

module _ {A : Type 0} (change : A → ℤ → A) (put : List A → ℕ → ℤ → List A) (put-length : (xs : List A) (i : ℕ) (v : ℤ) → length (put xs i v) ≡ length xs)
    (put-here : (xs : List A) (i : ℕ) (v : ℤ) (d : A) → i < length xs → get_or (put xs i v) i d ≡ change (get_or xs i d) v)
    (put-elsewhere : (xs : List A) (i k : ℕ) (v : ℤ) (d : A) → k ≢ i → get_or (put xs i v) k d ≡ get_or xs k d)
    (run : ℕ → ℕ → ℤ → List A → List A) (run-none : (i : ℕ) (v : ℤ) (xs : List A) → run i 0 v xs ≡ xs)
    (run-more : (i c : ℕ) (v : ℤ) (xs : List A) → run i (suc c) v xs ≡ run (i + 1) c v (put xs i v)) where
  pub run-length : (c i : ℕ) (v : ℤ) (xs : List A) → length (run i c v xs) ≡ length xs
  run-length zero i v xs = ap length (run-none i v xs)
  run-length (suc c) i v xs = ap length (run-more i c v xs) ∙ run-length c (i + 1) v (put xs i v) ∙ put-length xs i v

  run-before : (c i : ℕ) (v : ℤ) (xs : List A) (n : ℕ) (d : A) → n < i → get_or (run i c v xs) n d ≡ get_or xs n d
  run-before zero i v xs n d low = ap (λ (ys : List A). get_or ys n d) (run-none i v xs)
  run-before (suc c) i v xs n d low =
      ap (λ (ys : List A). get_or ys n d) (run-more i c v xs) ∙ run-before c (i + 1) v (put xs i v) n d (omega arith)
      ∙ put-elsewhere xs i n v d (λ is. omega (arith, is, low))

  run-behind : (c i : ℕ) (v : ℤ) (xs : List A) (n : ℕ) (d : A) → i + c ≤ n → get_or (run i c v xs) n d ≡ get_or xs n d
  run-behind zero i v xs n d high = ap (λ (ys : List A). get_or ys n d) (run-none i v xs)
  run-behind (suc c) i v xs n d high =
      ap (λ (ys : List A). get_or ys n d) (run-more i c v xs) ∙ run-behind c (i + 1) v (put xs i v) n d (omega arith)
      ∙ put-elsewhere xs i n v d (λ is. omega (arith, is, high))

  run-inside : (c i : ℕ) (v : ℤ) (xs : List A) (n : ℕ) (d : A) → n < length xs → i ≤ n → n < i + c → get_or (run i c v xs) n d ≡ change (get_or xs n d) v
  run-inside zero i v xs n d there low high = absurd (omega arith)
  run-inside (suc c) i v xs n d there low high =
      ap (λ (ys : List A). get_or ys n d) (run-more i c v xs)
      ∙ ⊎_elim
      (λ (first : n < i + 1). let here : i ≡ n = omega arith in
      run-before c (i + 1) v (put xs i v) n d first
      ∙ ap (λ k. get_or (put xs i v) k d) (sym here) ∙ put-here xs i v d (omega arith) ∙ ap (λ k. change (get_or xs k d) v) here)
      (λ (later : i + 1 ≤ n).
      run-inside c (i + 1) v (put xs i v) n d (omega (arith, put-length xs i v)) later (omega arith)
      ∙ ap (λ a. change a v) (put-elsewhere xs i n v d (λ is. omega (arith, is, later))))
      (cases_lt n (i + 1))

  pub run-at : (f : Fill) (xs : List A) (n : ℕ) (d : A) → n < length xs → get_or (run f.first f.count f.value xs) n d ≡ given change (fill_at n f) (get_or xs n d)
  run-at f xs n d there = ⊎_elim
      (λ (low : n < f.first). run-before f.count f.first f.value xs n d low ∙ ap (λ o. given change o (get_or xs n d)) (sym (none-below n f low)))
      (λ (from : f.first ≤ n). ⊎_elim
      (λ (high : n < f.first + f.count). run-inside f.count f.first f.value xs n d there from high ∙ ap (λ o. given change o (get_or xs n d)) (sym (set-inside n f from high)))
      (λ (behind : f.first + f.count ≤ n). run-behind f.count f.first f.value xs n d behind ∙ ap (λ o. given change o (get_or xs n d)) (sym (none-above n f behind)))
      (cases_lt n (f.first + f.count)))
      (cases_lt n f.first)

-- ---- one fill after the other

module _ {A : Type 0} (change : A → ℤ → A) (change-again : (a : A) (v w : ℤ) → change (change a v) w ≡ change a w) (fill : Fill → List A → List A)
    (fill-length : (f : Fill) (xs : List A) → length (fill f xs) ≡ length xs)
    (fill-given : (f : Fill) (xs : List A) (n : ℕ) (d : A) → n < length xs → get_or (fill f xs) n d ≡ given change (fill_at n f) (get_or xs n d))
    (all : List Fill → List A → List A) (all-none : (xs : List A) → all [] xs ≡ xs) (all-more : (f : Fill) (fs : List Fill) (xs : List A) → all (f ∷ fs) xs ≡ all fs (fill f xs)) where
  given-again : (o p : Option ℤ) (a : A) → given change o (given change p a) ≡ given change (option_or o p) a
  given-again None p a = refl
  given-again (Some v) None a = refl
  given-again (Some v) (Some w) a = change-again a w v

  all-length : (fs : List Fill) (xs : List A) → length (all fs xs) ≡ length xs
  all-length [] xs = ap length (all-none xs)
  all-length (f ∷ fs) xs = ap length (all-more f fs xs) ∙ all-length fs (fill f xs) ∙ fill-length f xs

  all-given : (fs : List Fill) (xs : List A) (n : ℕ) (d : A) → n < length xs → get_or (all fs xs) n d ≡ given change (last_at n fs) (get_or xs n d)
  all-given [] xs n d there = ap (λ (ys : List A). get_or ys n d) (all-none xs)
  all-given (f ∷ fs) xs n d there =
      ap (λ (ys : List A). get_or ys n d) (all-more f fs xs)
      ∙ all-given fs (fill f xs) n d (omega (arith, there, fill-length f xs))
      ∙ ap (given change (last_at n fs)) (fill-given f xs n d there)
      ∙ given-again (last_at n fs) (fill_at n f) (get_or xs n d)

  pub filled-alike : (fs gs : List Fill) (xs : List A) → ((n : ℕ) → last_at n fs ≡ last_at n gs) → all fs xs ≡ all gs xs
  filled-alike fs gs xs same =
      same_lists (all fs xs) (all gs xs) (all-length fs xs ∙ sym (all-length gs xs))
      (λ n d there. let inside : n < length xs = omega (arith, there, all-length fs xs) in
      all-given fs xs n d inside ∙ ap (λ o. given change o (get_or xs n d)) (same n) ∙ sym (all-given gs xs n d inside))
