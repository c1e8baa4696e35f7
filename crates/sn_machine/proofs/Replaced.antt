-- Lists read by `get_elem?`, and sums over views.
use Rattle.std.proofs.Common.{◌≡◌, ◌≢◌, ◌⊎◌, ℕ, zero, suc, ◌+◌, ◌≤◌, false, List, [], ◌∷◌, set, sym, refl, ap, ◌∙◌, subst, ⊎_elim, inl, inr, arith}
use mathlib.Core.Option.{some, some-injective, some-ne-none}
use lib.ListN.{get_elem?}
use Rattle.sn_machine.specs.declared.views.View.{View}
use Rattle.sn_machine.specs.States.{At}
use Rattle.sn_machine.specs.Rule.{total}

module _ {A : Type 0} where
  pub at_set : (l : List A) (i j : ℕ) (a b : A) → get_elem? (set l i a) j ≡ some b → ((j ≡ i) × (a ≡ b)) ⊎ ((j ≢ i) × (get_elem? l j ≡ some b))
  at_set [] i j a b e = absurd (some-ne-none b (sym e))
  at_set (x ∷ xs) zero zero a b e = inl (refl, some-injective a b e)
  at_set (x ∷ xs) zero (suc j) a b e = inr ((λ h. omega arith), e)
  at_set (x ∷ xs) (suc i) zero a b e = inr ((λ h. omega arith), e)
  at_set (x ∷ xs) (suc i) (suc j) a b e = ⊎_elim (λ t. inl (ap suc t.0, t.1)) (λ t. let n = t.0 in inr ((λ h. n (omega arith)), t.1)) (at_set xs i j a b e)

  pub set_here : (l : List A) (i : ℕ) (a v : A) → get_elem? l i ≡ some v → get_elem? (set l i a) i ≡ some a
  set_here [] i a v e = absurd (some-ne-none v (sym e))
  set_here (x ∷ xs) zero a v e = refl
  set_here (x ∷ xs) (suc i) a v e = set_here xs i a v e

  pub set_else : (l : List A) (i j : ℕ) (a : A) → j ≢ i → get_elem? (set l i a) j ≡ get_elem? l j
  set_else [] i j a n = refl
  set_else (x ∷ xs) zero zero a n = absurd (n refl)
  set_else (x ∷ xs) zero (suc j) a n = refl
  set_else (x ∷ xs) (suc i) zero a n = refl
  set_else (x ∷ xs) (suc i) (suc j) a n = set_else xs i j a (λ e. n (ap suc e))

  pub same_at : (l : List A) (i : ℕ) (a b : A) → get_elem? l i ≡ some a → get_elem? l i ≡ some b → a ≡ b
  same_at l i a b e f = some-injective a b (sym e ∙ f)

-- what holds of each view, after one view changes
pub each_set : (P : ℕ → View → Type 0) (views : List View) (id : ℕ) (w : View) → P id w → ((i : ℕ) (v : View) → i ≢ id → At views i v → P i v) → (i : ℕ) (v : View) → At (set views id w) i v → P i v
each_set P views id w mine others i v e =
    ⊎_elim
    (λ (t : (i ≡ id) × (w ≡ v)). subst (λ (y : ℕ × View). P y.0 y.1) (λ k. (sym t.0 k, t.1 k)) mine)
    (λ (t : (i ≢ id) × At views i v). others i v t.0 t.1)
    (at_set views id i w v e)

pub total_set : (f : View → ℕ) (views : List View) (id : ℕ) (v w : View) → At views id v → total f (set views id w) + f v ≡ total f views + f w
total_set f [] id v w e = absurd (some-ne-none v (sym e))
total_set f (x ∷ xs) zero v w e = let h : f x ≡ f v = ap f (some-injective x v e) in omega arith
total_set f (x ∷ xs) (suc id) v w e = omega (arith, total_set f xs id v w e)

pub total_same : (f : View → ℕ) (views : List View) (id : ℕ) (v w : View) → At views id v → f w ≡ f v → total f (set views id w) ≡ total f views
total_same f views id v w e h = omega (arith, total_set f views id v w e)

pub total_le : (f : View → ℕ) (views : List View) (i : ℕ) (v : View) → At views i v → f v ≤ total f views
total_le f [] i v e = absurd (some-ne-none v (sym e))
total_le f (x ∷ xs) zero v e = let h : f x ≡ f v = ap f (some-injective x v e) in omega arith
total_le f (x ∷ xs) (suc i) v e = omega (arith, total_le f xs i v e)

-- main's seat stays no worker's, if the changed view is as live as before
pub first_stays : (views : List View) (id : ℕ) (v w : View) → At views id v → w.worker.live ≡ v.worker.live → ((u : View) → At views 0 u → u.worker.live ≡ false) → (u : View) → At (set views id w) 0 u → u.worker.live ≡ false
first_stays views id v w at same h u a = ⊎_elim
    (λ (t : (0 ≡ id) × (w ≡ u)). ap (λ (y : View). y.worker.live) (sym t.1) ∙ (same ∙ h v (subst (λ k. At views k v) (sym t.0) at)))
    (λ (t : (0 ≢ id) × At views 0 u). h u t.1)
    (at_set views id 0 w u a)
