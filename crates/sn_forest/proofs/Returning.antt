-- A node that has moved goes back to where it stood.
use Rattle.std.proofs.Common.{◌≡◌, ◌≢◌, ℕ, ◌+◌, ◌≤◌, Some, sym, ap, ◌∙◌, subst, arith}
use Rattle.sn_forest.specs.declared.place.Place.{Place}
use Rattle.sn_forest.specs.Trees.{Trees, none, tree, uses, first_key, subtree, without, value_of, with_value}
use Rattle.sn_forest.specs.Places.{put, IsPlaceIn, shifted, place_by, place_in, place_of}
use Rattle.sn_forest.proofs.Keys.{one_same}
use Rattle.sn_forest.proofs.Paths.{Path, top, under, beside, plug, parent_of, previous_of, path_uses, uses-plug, Found, found}
use Rattle.sn_forest.proofs.Passing.{without_at, first_at, after_at, value_at, value_found, subtree_found, links_found}
use Rattle.sn_forest.proofs.Loose.{IsInner, is_inner}
use Rattle.sn_forest.proofs.Holes.{Gap, gap}

module _ {T : Type 0} where
  -- a node goes into the hole that it left
  put_back : (p : Path T) (k : ℕ) (value : T) (below after : Trees T) → IsInner p → ((j : ℕ) → uses j (plug p after) ≤ 1)
      → put (place_by k (parent_of p) (previous_of p)) (tree k value below none) (plug p after) ≡ plug p (tree k value below after)
  put_back top k value below after i once = absurd i
  put_back (under key v a p) k value below after i once =
      first_at p key v after a (tree k value below none) (omega (arith, once key, uses-plug key p (tree key v after a), one_same key))
  put_back (beside key v b p) k value below after i once =
      after_at p key v b after (tree k value below none) (omega (arith, once key, uses-plug key p (tree key v b after), one_same key))

  -- a node before and after a move
  pub record Shift (k : ℕ) (place : Place) (trees : Trees T) : Type 0 where
    pub path : Path T
    pub value : T
    pub below : Trees T
    pub after : Trees T
    pub to : Path T
    pub rest : Trees T
    pub is : trees ≡ plug path (tree k value below after)
    pub left : without k trees ≡ plug path after
    pub same : plug path after ≡ plug to rest
    pub now : shifted k place trees ≡ plug to (tree k value below rest)
    pub inner : IsInner path
    pub free : path_uses k path + (uses k below + uses k after) ≡ 0
    pub free_to : path_uses k to + uses k rest ≡ 0

  pub shift : (k : ℕ) (place : Place) (trees : Trees T) → ((j : ℕ) → uses j trees ≤ 1) → 1 ≤ uses k trees → first_key trees ≢ Some k → IsPlaceIn (without k trees) place → Shift k place trees
  shift k place trees once u n w =
      let f : Found k trees = found k top trees u in
      let z : path_uses k f.path + (uses k f.below + uses k f.after) ≡ 0 = omega (arith, once k, ap (λ x. uses k x) f.is, uses-plug k f.path (tree k f.value f.below f.after), one_same k) in
      let left : without k trees ≡ plug f.path f.after = ap (without k) f.is ∙ without_at f.path k f.value f.below f.after (omega (arith, z)) (omega (arith, z)) in
      let sub : subtree k trees ≡ tree k f.value f.below none = ap (subtree k) f.is ∙ subtree_found f.path k f.value f.below f.after (omega (arith, z)) in
      let g : Gap place (plug f.path f.after) = gap place (plug f.path f.after)
      (λ j. omega (arith, once j, ap (λ x. uses j x) f.is, uses-plug j f.path (tree k f.value f.below f.after), uses-plug j f.path f.after)) (subst (λ x. IsPlaceIn x place) left w) in
      record {
        path = f.path;
        value = f.value;
        below = f.below;
        after = f.after;
        to = g.path;
        rest = g.after;
        is = f.is;
        left = left;
        same = g.is;
        now = (λ i. put place (sub i) (left i)) ∙ g.puts k f.value f.below;
        inner = is_inner f.path k f.value f.below f.after (λ e. n (ap first_key f.is ∙ e));
        free = z;
        free_to = omega (arith, z, uses-plug k f.path f.after, ap (λ x. uses k x) g.is, uses-plug k g.path g.after);
      }

  pub links_place : (k : ℕ) (p : Path T) (value : T) (below after : Trees T) → path_uses k p ≡ 0 → place_of k (plug p (tree k value below after)) ≡ place_by k (parent_of p) (previous_of p)
  links_place k p value below after z = ap (place_in k) (links_found p k value below after z)

  pub moves_back : (k : ℕ) (place : Place) (trees : Trees T) → ((j : ℕ) → uses j trees ≤ 1) → 1 ≤ uses k trees → first_key trees ≢ Some k → IsPlaceIn (without k trees) place
      → shifted k (place_of k trees) (shifted k place trees) ≡ trees
  moves_back k place trees once u n w =
      let s : Shift k place trees = shift k place trees once u n w in
      let left : without k (shifted k place trees) ≡ plug s.path s.after = ap (without k) s.now ∙ (without_at s.to k s.value s.below s.rest (omega (arith, s.free_to)) (omega (arith, s.free_to)) ∙ sym s.same) in
      let sub : subtree k (shifted k place trees) ≡ tree k s.value s.below none = ap (subtree k) s.now ∙ subtree_found s.to k s.value s.below s.rest (omega (arith, s.free_to)) in
      let back : place_of k trees ≡ place_by k (parent_of s.path) (previous_of s.path) = ap (place_of k) s.is ∙ links_place k s.path s.value s.below s.after (omega (arith, s.free)) in
      (λ i. put (back i) (sub i) (left i))
      ∙ (put_back s.path k s.value s.below s.after s.inner (λ j. omega (arith, once j, ap (λ x. uses j x) s.is, uses-plug j s.path (tree k s.value s.below s.after), uses-plug j s.path s.after))
      ∙ sym s.is)

  -- a new node is removed
  pub insert_back : (k : ℕ) (place : Place) (value : T) (trees : Trees T) → ((j : ℕ) → uses j trees ≤ 1) → uses k trees ≡ 0 → IsPlaceIn trees place
      → without k (put place (tree k value none none) trees) ≡ trees
  insert_back k place value trees once z w =
      let g : Gap place trees = gap place trees once w in
      let free : path_uses k g.path + uses k g.after ≡ 0 = omega (arith, z, ap (λ x. uses k x) g.is, uses-plug k g.path g.after) in
      ap (without k) (g.puts k value none)
      ∙ (without_at g.path k value none g.after (omega (arith, free)) (omega (arith, free)) ∙ sym g.is)

  -- a node holds again what it held
  pub value_back : (k : ℕ) (old new : T) (trees : Trees T) → ((j : ℕ) → uses j trees ≤ 1) → 1 ≤ uses k trees → value_of k trees ≡ Some old
      → with_value k old (with_value k new trees) ≡ trees
  value_back k old new trees once u e =
      let f : Found k trees = found k top trees u in
      let z : path_uses k f.path ≡ 0 = omega (arith, once k, ap (λ x. uses k x) f.is, uses-plug k f.path (tree k f.value f.below f.after), one_same k) in
      let held : Some f.value ≡ Some old = sym (ap (value_of k) f.is ∙ value_found f.path k f.value f.below f.after z) ∙ e in
      ap (λ x. with_value k old (with_value k new x)) f.is
      ∙ (ap (with_value k old) (value_at f.path k f.value new f.below f.after z)
      ∙ (value_at f.path k new old f.below f.after z
      ∙ (ap (λ x. plug f.path (tree k x f.below f.after)) (sym (same_held f.value old held)) ∙ sym f.is)))
    where
      same_held : (a b : T) → Some a ≡ Some b → a ≡ b
      same_held a b e = cc
