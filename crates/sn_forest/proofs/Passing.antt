-- What a call makes of trees with a hole: it goes through the path, whose nodes it doesn't name.
use Rattle.std.proofs.Common.{◌≡◌, ◌≢◌, ℕ, ◌≤◌, Some, None, refl, ap, ◌∙◌, arith}
use Rattle.std.specs.Prelude.{if◌then◌else◌}
use Rattle.sn_forest.specs.Trees.{Trees, none, tree, uses, has_key, first_key, last_key, joined, value_of, below_of, subtree, links_from, links_of, without, put_first, put_last, put_before, put_after, with_value}
use Rattle.sn_forest.proofs.Keys.{same_key, other_key, one_same, apart, missing, present}
use Rattle.sn_forest.proofs.Paths.{Path, top, under, beside, plug, parent_of, previous_of, path_uses}

-- a change that leaves nodes with other keys as they are
module _ {T : Type 0} (F : Trees T → Trees T) (k : ℕ) (base : F none ≡ none)
    (step : (key : ℕ) (value : T) (below after : Trees T) → key ≢ k → F (tree key value below after) ≡ tree key value (F below) (F after)) where
  pub untouched : (t : Trees T) → uses k t ≡ 0 → F t ≡ t
  untouched none z = base
  untouched (tree key value below after) z =
      let b : F below ≡ below = untouched below (omega (arith, z)) in
      let a : F after ≡ after = untouched after (omega (arith, z)) in
      step key value below after (apart key k (omega (arith, z))) ∙ (λ i. tree key value (b i) (a i))

  pub passes : (p : Path T) (t : Trees T) → path_uses k p ≡ 0 → F (plug p t) ≡ plug p (F t)
  passes top t z = refl
  passes (under key value after p) t z =
      passes p (tree key value t after) (omega (arith, z))
      ∙ ap (plug p) (step key value t after (apart key k (omega (arith, z))) ∙ ap (tree key value (F t)) (untouched after (omega (arith, z))))
  passes (beside key value below p) t z =
      passes p (tree key value below t) (omega (arith, z))
      ∙ ap (plug p) (step key value below t (apart key k (omega (arith, z))) ∙ ap (λ x. tree key value x (F t)) (untouched below (omega (arith, z))))

-- what is found at a node, and isn't looked for at others
module _ {T A : Type 0} (G : Trees T → A) (k : ℕ)
    (step : (key : ℕ) (value : T) (below after : Trees T) → key ≢ k → G (tree key value below after) ≡ (if has_key k below then G below else G after)) where
  pub finds : (p : Path T) (t : Trees T) → 1 ≤ uses k t → path_uses k p ≡ 0 → G (plug p t) ≡ G t
  finds top t h z = refl
  finds (under key value after p) t h z =
      finds p (tree key value t after) (omega (arith, h)) (omega (arith, z))
      ∙ (step key value t after (apart key k (omega (arith, z))) ∙ ap (λ b. if b then G t else G after) (present k t h))
  finds (beside key value below p) t h z =
      finds p (tree key value below t) (omega (arith, h)) (omega (arith, z))
      ∙ (step key value below t (apart key k (omega (arith, z))) ∙ ap (λ b. if b then G below else G t) (missing k below (omega (arith, z))))

module _ {T : Type 0} where
  pub without_step : (k key : ℕ) (value : T) (below after : Trees T) → key ≢ k → without k (tree key value below after) ≡ tree key value (without k below) (without k after)
  without_step k key value below after n = ap (λ b. if b then without k after else tree key value (without k below) (without k after)) (other_key key k n)

  pub first_step : (k : ℕ) (new : Trees T) (key : ℕ) (value : T) (below after : Trees T) → key ≢ k → put_first k new (tree key value below after) ≡ tree key value (put_first k new below) (put_first k new after)
  first_step k new key value below after n = ap (λ b. if b then tree key value (joined new below) after else tree key value (put_first k new below) (put_first k new after)) (other_key key k n)

  pub after_step : (k : ℕ) (new : Trees T) (key : ℕ) (value : T) (below after : Trees T) → key ≢ k → put_after k new (tree key value below after) ≡ tree key value (put_after k new below) (put_after k new after)
  after_step k new key value below after n = ap (λ b. if b then tree key value below (joined new after) else tree key value (put_after k new below) (put_after k new after)) (other_key key k n)

  pub last_step : (k : ℕ) (new : Trees T) (key : ℕ) (value : T) (below after : Trees T) → key ≢ k → put_last k new (tree key value below after) ≡ tree key value (put_last k new below) (put_last k new after)
  last_step k new key value below after n = ap (λ b. if b then tree key value (joined below new) after else tree key value (put_last k new below) (put_last k new after)) (other_key key k n)

  pub before_step : (k : ℕ) (new : Trees T) (key : ℕ) (value : T) (below after : Trees T) → key ≢ k → put_before k new (tree key value below after) ≡ tree key value (put_before k new below) (put_before k new after)
  before_step k new key value below after n = ap (λ b. if b then joined new (tree key value below after) else tree key value (put_before k new below) (put_before k new after)) (other_key key k n)

  value_step : (k : ℕ) (new : T) (key : ℕ) (value : T) (below after : Trees T) → key ≢ k → with_value k new (tree key value below after) ≡ tree key value (with_value k new below) (with_value k new after)
  value_step k new key value below after n = ap (λ b. if b then tree key new below after else tree key value (with_value k new below) (with_value k new after)) (other_key key k n)

  -- the node of a key, at the end of its path

  pub without_at : (p : Path T) (k : ℕ) (value : T) (below after : Trees T) → path_uses k p ≡ 0 → uses k after ≡ 0
      → without k (plug p (tree k value below after)) ≡ plug p after
  without_at p k value below after z y =
      passes (without k) k refl (without_step k) p (tree k value below after) z
      ∙ ap (plug p) (ap (λ b. if b then without k after else tree k value (without k below) (without k after)) (same_key k) ∙ untouched (without k) k refl (without_step k) after y)

  pub first_at : (p : Path T) (k : ℕ) (value : T) (below after new : Trees T) → path_uses k p ≡ 0
      → put_first k new (plug p (tree k value below after)) ≡ plug p (tree k value (joined new below) after)
  first_at p k value below after new z =
      passes (put_first k new) k refl (first_step k new) p (tree k value below after) z
      ∙ ap (λ b. plug p (if b then tree k value (joined new below) after else tree k value (put_first k new below) (put_first k new after))) (same_key k)

  pub after_at : (p : Path T) (k : ℕ) (value : T) (below after new : Trees T) → path_uses k p ≡ 0
      → put_after k new (plug p (tree k value below after)) ≡ plug p (tree k value below (joined new after))
  after_at p k value below after new z =
      passes (put_after k new) k refl (after_step k new) p (tree k value below after) z
      ∙ ap (λ b. plug p (if b then tree k value below (joined new after) else tree k value (put_after k new below) (put_after k new after))) (same_key k)

  pub last_at : (p : Path T) (k : ℕ) (value : T) (below after new : Trees T) → path_uses k p ≡ 0
      → put_last k new (plug p (tree k value below after)) ≡ plug p (tree k value (joined below new) after)
  last_at p k value below after new z =
      passes (put_last k new) k refl (last_step k new) p (tree k value below after) z
      ∙ ap (λ b. plug p (if b then tree k value (joined below new) after else tree k value (put_last k new below) (put_last k new after))) (same_key k)

  pub before_at : (p : Path T) (k : ℕ) (value : T) (below after new : Trees T) → path_uses k p ≡ 0
      → put_before k new (plug p (tree k value below after)) ≡ plug p (joined new (tree k value below after))
  before_at p k value below after new z =
      passes (put_before k new) k refl (before_step k new) p (tree k value below after) z
      ∙ ap (λ b. plug p (if b then joined new (tree k value below after) else tree k value (put_before k new below) (put_before k new after))) (same_key k)

  pub value_at : (p : Path T) (k : ℕ) (value new : T) (below after : Trees T) → path_uses k p ≡ 0
      → with_value k new (plug p (tree k value below after)) ≡ plug p (tree k new below after)
  value_at p k value new below after z =
      passes (with_value k new) k refl (value_step k new) p (tree k value below after) z
      ∙ ap (λ b. plug p (if b then tree k new below after else tree k value (with_value k new below) (with_value k new after))) (same_key k)

  pub value_found : (p : Path T) (k : ℕ) (value : T) (below after : Trees T) → path_uses k p ≡ 0
      → value_of k (plug p (tree k value below after)) ≡ Some value
  value_found p k value below after z =
      finds (value_of k) k (λ key v b a n. ap (λ t. if t then Some v else if has_key k b then value_of k b else value_of k a) (other_key key k n)) p (tree k value below after) (omega (arith, one_same k)) z
      ∙ ap (λ t. if t then Some value else if has_key k below then value_of k below else value_of k after) (same_key k)

  pub below_found : (p : Path T) (k : ℕ) (value : T) (below after : Trees T) → path_uses k p ≡ 0
      → below_of k (plug p (tree k value below after)) ≡ below
  below_found p k value below after z =
      finds (below_of k) k (λ key v b a n. ap (λ t. if t then b else if has_key k b then below_of k b else below_of k a) (other_key key k n)) p (tree k value below after) (omega (arith, one_same k)) z
      ∙ ap (λ t. if t then below else if has_key k below then below_of k below else below_of k after) (same_key k)

  pub subtree_found : (p : Path T) (k : ℕ) (value : T) (below after : Trees T) → path_uses k p ≡ 0
      → subtree k (plug p (tree k value below after)) ≡ tree k value below none
  subtree_found p k value below after z =
      finds (subtree k) k (λ key v b a n. ap (λ t. if t then tree key v b none else if has_key k b then subtree k b else subtree k a) (other_key key k n)) p (tree k value below after) (omega (arith, one_same k)) z
      ∙ ap (λ t. if t then tree k value below none else if has_key k below then subtree k below else subtree k after) (same_key k)

  links_pass : (k : ℕ) (p : Path T) (t : Trees T) → 1 ≤ uses k t → path_uses k p ≡ 0 → links_of k (plug p t) ≡ links_from (parent_of p) (previous_of p) k t
  links_pass k top t h z = refl
  links_pass k (under key value after p) t h z =
      links_pass k p (tree key value t after) (omega (arith, h)) (omega (arith, z))
      ∙ (λ i. if other_key key k (apart key k (omega (arith, z))) i then Some (record { parent = parent_of p; previous = previous_of p; next = first_key after; first = first_key t; last = last_key None t })
      else if present k t h i then links_from (Some key) None k t else links_from (parent_of p) (Some key) k after)
  links_pass k (beside key value below p) t h z =
      links_pass k p (tree key value below t) (omega (arith, h)) (omega (arith, z))
      ∙ (λ i. if other_key key k (apart key k (omega (arith, z))) i then Some (record { parent = parent_of p; previous = previous_of p; next = first_key t; first = first_key below; last = last_key None below })
      else if missing k below (omega (arith, z)) i then links_from (Some key) None k below else links_from (parent_of p) (Some key) k t)

  pub links_found : (p : Path T) (k : ℕ) (value : T) (below after : Trees T) → path_uses k p ≡ 0
      → links_of k (plug p (tree k value below after)) ≡ Some (record { parent = parent_of p; previous = previous_of p; next = first_key after; first = first_key below; last = last_key None below })
  links_found p k value below after z =
      links_pass k p (tree k value below after) (omega (arith, one_same k)) z
      ∙ ap (λ t. if t then Some (record { parent = parent_of p; previous = previous_of p; next = first_key after; first = first_key below; last = last_key None below })
      else if has_key k below then links_from (Some k) None k below else links_from (parent_of p) (Some k) k after) (same_key k)
