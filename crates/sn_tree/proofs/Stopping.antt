-- A walk that stops at a node, and goes on from there.
use Rattle.std.proofs.Common.{◌≡◌, ◌≢◌, ℕ, ◌+◌, ◌≤◌, Bool, true, false, Some, sym, refl, ap, ◌∙◌, subst, ⊎_elim, arith}
use Rattle.std.specs.Prelude.{◌==◌, if◌then◌else◌}
use Rattle.std.proofs.lemmas.Bool.{cases_eq}
use Rattle.sn_forest.specs.Trees.{Trees, none, tree, one_at, uses, has_key, first_key, joined, subtree, value_of}
use Rattle.sn_forest.specs.Walking.{from}
use Rattle.sn_forest.proofs.Keys.{one_same, uses-joined}
use Rattle.sn_forest.proofs.Paths.{Path, top, under, plug, path_uses, uses-plug, Found, found}
use Rattle.sn_forest.proofs.Passing.{subtree_found, value_found}
use Rattle.sn_forest.proofs.Walking.{onward, from_found, next_behind_node, next_behind_tree, none_first, some_first}
use Rattle.sn_forest.proofs.Climbing.{over, alone, Inside, inside, once_within}

module _ {T : Type 0} where
  pub first_used : (t : Trees T) (n : ℕ) → first_key t ≡ Some n → 1 ≤ uses n t
  first_used none n e = absurd (none_first n e)
  first_used (tree key value below after) n e = omega (arith, subst (λ x. one_at x n ≡ 1) (sym (some_first key n e)) (one_same n))

  fewer_from : (a b : Bool) (j : ℕ) (t f g below after : Trees T) → uses j f ≤ uses j below → uses j g ≤ uses j after → uses j below + uses j after ≤ uses j t
      → uses j (if a then t else if b then joined f after else g) ≤ uses j t
  fewer_from true b j t f g below after h i e = omega arith
  fewer_from false true j t f g below after h i e = omega (arith, uses-joined j f after, h, e)
  fewer_from false false j t f g below after h i e = omega (arith, i, e)

  pub uses-from : (k j : ℕ) (t : Trees T) → uses j (from k t) ≤ uses j t
  uses-from k j none = omega arith
  uses-from k j (tree key value below after) =
      fewer_from (key == k) (has_key k below) j (tree key value below after) (from k below) (from k after) below after (uses-from k j below) (uses-from k j after) (omega arith)

  -- the node at which a walk over the tree of a top stops, and what comes next
  pub record Stop (trees : Trees T) (k at : ℕ) : Type 0 where
    pub value : T
    pub below : Trees T
    pub rest : Trees T
    pub from_there : from at (subtree k trees) ≡ tree at value below rest
    pub held : value_of at trees ≡ Some value
    pub inner : subtree at trees ≡ tree at value below none
    pub on : (n : ℕ) → first_key (joined below rest) ≡ Some n → from n (subtree k trees) ≡ joined below rest
    pub past : (n : ℕ) → first_key rest ≡ Some n → from n (subtree k trees) ≡ rest

  pub next_used : (trees : Trees T) (k at : ℕ) (s : Stop trees k at) (n : ℕ) → first_key (joined s.below s.rest) ≡ Some n → 1 ≤ uses n (subtree k trees)
  next_used trees k at s n e =
      omega (arith, first_used (joined s.below s.rest) n e, uses-joined n s.below s.rest, uses-from at n (subtree k trees), ap (λ x. uses n x) s.from_there)

  stop_top : (trees : Trees T) (k : ℕ) → ((j : ℕ) → uses j trees ≤ 1) → 1 ≤ uses k trees → Stop trees k k
  stop_top trees k once u =
      let f : Found k trees = found k top trees u in
      let z : path_uses k f.path ≡ 0 = omega (arith, once k, ap (λ x. uses k x) f.is, uses-plug k f.path (tree k f.value f.below f.after), one_same k) in
      let sub : subtree k trees ≡ tree k f.value f.below none = ap (subtree k) f.is ∙ subtree_found f.path k f.value f.below f.after z in
      let holds : value_of k (plug f.path (tree k f.value f.below f.after)) ≡ Some f.value = value_found f.path k f.value f.below f.after z in
      record {
        value = f.value;
        below = f.below;
        rest = none;
        from_there = ap (from k) sub ∙ from_found k top f.value f.below none refl;
        held = ap (value_of k) f.is ∙ holds;
        inner = sub;
        on = λ n e. ap (from n) sub ∙ next_behind_node k n top f.value f.below none (λ j. omega (arith, once_within trees k once u j, ap (λ x. uses j x) sub)) e;
        past = λ n e. absurd (none_first n e);
      }

  stop_inside : (trees : Trees T) (k at : ℕ) → ((j : ℕ) → uses j trees ≤ 1) → 1 ≤ uses k trees → 1 ≤ uses at (subtree k trees) → at ≢ k → Stop trees k at
  stop_inside trees k at once u v n =
      let i : Inside trees k at = inside trees k at once u v n in
      let way : Path T = over i.path (under k i.value i.behind i.outer) in
      let near : Path T = over i.path (alone k i.value) in
      let z : path_uses at way ≡ 0 = omega (arith, once at, ap (λ x. uses at x) i.whole, uses-plug at way (tree at i.held i.below i.after), one_same at) in
      let sub_once : (j : ℕ) → uses j (plug near (tree at i.held i.below i.after)) ≤ 1 = λ j. omega (arith, once_within trees k once u j, ap (λ x. uses j x) i.within) in
      let y : path_uses at near ≡ 0 = omega (arith, sub_once at, uses-plug at near (tree at i.held i.below i.after), one_same at) in
      let holds : value_of at (plug way (tree at i.held i.below i.after)) ≡ Some i.held = value_found way at i.held i.below i.after z in
      let from_of : from at (plug near (tree at i.held i.below i.after)) ≡ tree at i.held i.below (onward near i.after) = from_found at near i.held i.below i.after y in
      record {
        value = i.held;
        below = i.below;
        rest = onward near i.after;
        from_there = ap (from at) i.within ∙ from_of;
        held = ap (value_of at) i.whole ∙ holds;
        inner = ap (subtree at) i.whole ∙ subtree_found way at i.held i.below i.after z;
        on = λ n e. ap (from n) i.within ∙ next_behind_node at n near i.held i.below i.after sub_once e;
        past = λ n e. ap (from n) i.within ∙ next_behind_tree at n near i.held i.below i.after sub_once e;
      }

  pub stop : (trees : Trees T) (k at : ℕ) → ((j : ℕ) → uses j trees ≤ 1) → 1 ≤ uses k trees → 1 ≤ uses at (subtree k trees) → Stop trees k at
  stop trees k at once u v =
      ⊎_elim
      (λ (e : at ≡ k). subst (λ x. Stop trees k x) (sym e) (stop_top trees k once u))
      (λ n. stop_inside trees k at once u v n)
      (cases_eq at k)

  -- the walk begins at the top
  pub top_from : (trees : Trees T) (k : ℕ) → ((j : ℕ) → uses j trees ≤ 1) → 1 ≤ uses k trees → from k (subtree k trees) ≡ subtree k trees
  top_from trees k once u =
      let f : Found k trees = found k top trees u in
      let z : path_uses k f.path ≡ 0 = omega (arith, once k, ap (λ x. uses k x) f.is, uses-plug k f.path (tree k f.value f.below f.after), one_same k) in
      let sub : subtree k trees ≡ tree k f.value f.below none = ap (subtree k) f.is ∙ subtree_found f.path k f.value f.below f.after z in
      ap (from k) sub ∙ (from_found k top f.value f.below none refl ∙ sym sub)

  pub top_first : (trees : Trees T) (k : ℕ) → ((j : ℕ) → uses j trees ≤ 1) → 1 ≤ uses k trees → first_key (subtree k trees) ≡ Some k
  top_first trees k once u =
      let f : Found k trees = found k top trees u in
      let z : path_uses k f.path ≡ 0 = omega (arith, once k, ap (λ x. uses k x) f.is, uses-plug k f.path (tree k f.value f.below f.after), one_same k) in
      let sub : subtree k trees ≡ tree k f.value f.below none = ap (subtree k) f.is ∙ subtree_found f.path k f.value f.below f.after z in
      ap first_key sub

  pub top_used : (trees : Trees T) (k : ℕ) → ((j : ℕ) → uses j trees ≤ 1) → 1 ≤ uses k trees → 1 ≤ uses k (subtree k trees)
  top_used trees k once u = first_used (subtree k trees) k (top_first trees k once u)

  -- a node of the tree of a top is one of all
  pub used_within : (trees : Trees T) (k : ℕ) → ((j : ℕ) → uses j trees ≤ 1) → 1 ≤ uses k trees → (at : ℕ) → 1 ≤ uses at (subtree k trees) → 1 ≤ uses at trees
  used_within trees k once u at h =
      let f : Found k trees = found k top trees u in
      let z : path_uses k f.path ≡ 0 = omega (arith, once k, ap (λ x. uses k x) f.is, uses-plug k f.path (tree k f.value f.below f.after), one_same k) in
      let sub : subtree k trees ≡ tree k f.value f.below none = ap (subtree k) f.is ∙ subtree_found f.path k f.value f.below f.after z in
      omega (arith, h, ap (λ x. uses at x) sub, ap (λ x. uses at x) f.is, uses-plug at f.path (tree k f.value f.below f.after))
