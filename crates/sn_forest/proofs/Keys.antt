-- How often keys are in trees.
use Rattle.std.proofs.Common.{◌≡◌, ◌≢◌, ◌⊎◌, inl, inr, ℕ, zero, suc, ◌+◌, ◌-◌, ◌<◌, ◌≤◌, true, false, nat_lt, Option, Some, sym, refl, ap, subst, ⊎_elim, arith}
use Rattle.std.specs.Prelude.{◌==◌, if◌then◌else◌}
use Rattle.std.proofs.lemmas.Bool.{lt-ltb}
use Rattle.std.proofs.lemmas.Bool.Decides.{eqb_tells}
use Rattle.sn_forest.specs.Trees.{Trees, none, tree, one_at, count, uses, has_key, last_key, joined}

pub same_key : (k : ℕ) → (k == k) ≡ true
same_key k = ⊎_elim (λ (h : ((k == k) ≡ true) × (k ≡ k)). h.0) (λ (h : ((k == k) ≡ false) × (k ≢ k)). absurd (h.1 refl)) (eqb_tells k k)

pub other_key : (a b : ℕ) → a ≢ b → (a == b) ≡ false
other_key a b n = ⊎_elim (λ (h : ((a == b) ≡ true) × (a ≡ b)). absurd (n h.1)) (λ (h : ((a == b) ≡ false) × (a ≢ b)). h.0) (eqb_tells a b)

pub one_same : (k : ℕ) → one_at k k ≡ 1
one_same k = ap (λ b. if b then 1 else 0) (same_key k)

pub one_other : (a b : ℕ) → a ≢ b → one_at a b ≡ 0
one_other a b n = ap (λ b. if b then 1 else 0) (other_key a b n)

pub some_or_none : (n : ℕ) → (1 ≤ n) ⊎ (n ≤ 0)
some_or_none zero = inr (omega arith)
some_or_none (suc n) = inl (omega arith)

pub lt_or_le : (m n : ℕ) → (m < n) ⊎ (n ≤ m)
lt_or_le m n = ⊎_elim (λ (h : 1 ≤ n - m). inl (omega arith)) (λ (h : n - m ≤ 0). inr (omega arith)) (some_or_none (n - m))

-- keys that are told apart by how often they are used
pub apart : (a b : ℕ) → one_at a b ≡ 0 → a ≢ b
apart a b z e = absurd (omega (arith, one_same b, subst (λ x. one_at x b ≡ 0) e z))

module _ {T : Type 0} where
  pub missing : (k : ℕ) (t : Trees T) → uses k t ≡ 0 → has_key k t ≡ false
  missing k t z = ap (λ n. nat_lt 0 n) z

  pub present : (k : ℕ) (t : Trees T) → 1 ≤ uses k t → has_key k t ≡ true
  present k t h = lt-ltb 0 (uses k t) (omega (arith, h))

  -- a key of these trees is none of the others
  pub differ : (j k : ℕ) (t : Trees T) → 1 ≤ uses j t → uses k t ≡ 0 → j ≢ k
  differ j k t h z e = absurd (omega (arith, z, subst (λ x. 1 ≤ uses x t) e h))

  pub uses-joined : (k : ℕ) (s t : Trees T) → uses k (joined s t) ≡ uses k s + uses k t
  uses-joined k none t = omega arith
  uses-joined k (tree key value below after) t = omega (arith, uses-joined k after t)

  pub count-joined : (s t : Trees T) → count (joined s t) ≡ count s + count t
  count-joined none t = omega arith
  count-joined (tree key value below after) t = omega (arith, count-joined after t)

  pub joined-none : (t : Trees T) → joined t none ≡ t
  joined-none none = refl
  joined-none (tree key value below after) = ap (tree key value below) (joined-none after)

  pub joined-joined : (r s t : Trees T) → joined (joined r s) t ≡ joined r (joined s t)
  joined-joined none s t = refl
  joined-joined (tree key value below after) s t = ap (tree key value below) (joined-joined after s t)
