-- Nodes that a change doesn't name, and the last tree of a level.
use Rattle.std.proofs.Common.{◌≡◌, ℕ, ◌≤◌, Option, Some, sym, refl, subst, arith}
use Rattle.sn_forest.specs.Trees.{Trees, none, tree, one_at, count, uses, last_key, without, put_first, put_last, put_before, put_after}
use Rattle.sn_forest.proofs.Keys.{one_same}
use Rattle.sn_forest.proofs.Passing.{untouched, without_step, first_step, last_step, before_step, after_step}

module _ {T : Type 0} where
  pub without_absent : (k : ℕ) (t : Trees T) → uses k t ≡ 0 → without k t ≡ t
  without_absent k t z = untouched (without k) k refl (without_step k) t z

  pub after_absent : (k : ℕ) (new t : Trees T) → uses k t ≡ 0 → put_after k new t ≡ t
  after_absent k new t z = untouched (put_after k new) k refl (after_step k new) t z

  pub first_absent : (k : ℕ) (new t : Trees T) → uses k t ≡ 0 → put_first k new t ≡ t
  first_absent k new t z = untouched (put_first k new) k refl (first_step k new) t z

  pub last_absent : (k : ℕ) (new t : Trees T) → uses k t ≡ 0 → put_last k new t ≡ t
  last_absent k new t z = untouched (put_last k new) k refl (last_step k new) t z

  pub before_absent : (k : ℕ) (new t : Trees T) → uses k t ≡ 0 → put_before k new t ≡ t
  before_absent k new t z = untouched (put_before k new) k refl (before_step k new) t z

  -- the last tree is one of them
  pub last_used : (m : ℕ) (t : Trees T) (before : Option ℕ) → 1 ≤ count t → last_key before t ≡ Some m → 1 ≤ uses m t
  last_used m none before c e = absurd (omega (arith, c))
  last_used m (tree key value below none) before c e = omega (arith, subst (λ x. one_at x m ≡ 1) (sym (some_same key m e)) (one_same m))
    where
      some_same : (a b : ℕ) → Some a ≡ Some b → a ≡ b
      some_same a b e = cc
  last_used m (tree key value below (tree k v b a)) before c e = omega (arith, last_used m (tree k v b a) (Some key) (omega arith) e)
