-- Lists with one more element, and what stands where.
use Rattle.std.proofs.Common.{◌≡◌, ◌⊎◌, ◌<◌, ◌++◌, ℕ, zero, suc, List, [], ◌∷◌, length, slice_get, Some, unwrap_or, sym, refl, ap, inl, inr, ⊎_elim, arith}
use Rattle.std.proofs.lemmas.Option.{none-some}
use mathlib.Core.Option.{some, some-injective, some-ne-none}
use lib.ListN.{get_elem?}

module _ {A : Type 0} where
  pub at_within : (l : List A) (i : ℕ) (a : A) → get_elem? l i ≡ some a → i < length l
  at_within [] i a e = absurd (some-ne-none a (sym e))
  at_within (x ∷ xs) zero a e = omega arith
  at_within (x ∷ xs) (suc i) a e = let h = at_within xs i a e in omega arith

  pub at_push : (l : List A) (a b : A) (j : ℕ) → get_elem? (l ++ a ∷ []) j ≡ some b → (get_elem? l j ≡ some b) ⊎ ((j ≡ length l) × (a ≡ b))
  at_push [] a b zero e = inr (refl, some-injective a b e)
  at_push [] a b (suc j) e = absurd (some-ne-none b (sym e))
  at_push (x ∷ xs) a b zero e = inl e
  at_push (x ∷ xs) a b (suc j) e = ⊎_elim (λ h. inl h) (λ h. inr (ap suc h.0, h.1)) (at_push xs a b j e)

  pub get_push : (l : List A) (a b : A) (j : ℕ) → slice_get (l ++ a ∷ []) j ≡ Some b → ((j < length l) × (slice_get l j ≡ Some b)) ⊎ ((j ≡ length l) × (a ≡ b))
  get_push [] a b zero e = inr (refl, ap (λ o. unwrap_or o a) e)
  get_push [] a b (suc j) e = absurd (none-some b e)
  get_push (x ∷ xs) a b zero e = inl (omega arith, e)
  get_push (x ∷ xs) a b (suc j) e = ⊎_elim (λ h. let lt = h.0 in inl (omega arith, h.1)) (λ h. inr (ap suc h.0, h.1)) (get_push xs a b j e)

  pub get_seam : (l rest : List A) (a : A) → slice_get (l ++ a ∷ rest) (length l) ≡ Some a
  get_seam [] rest a = refl
  get_seam (x ∷ xs) rest a = get_seam xs rest a
