-- Going up from a node reaches a top, or the node isn't in the tree of the top.
use Rattle.std.proofs.Common.{◌≡◌, ◌≢◌, ℕ, ◌+◌, ◌-◌, ◌<◌, ◌≤◌, Bool, true, false, List, [], ◌∷◌, Option, Some, None, sym, refl, ap, ◌∙◌, subst, ⊎_elim, arith}
use Rattle.std.specs.Prelude.{if◌then◌else◌, ◌==◌}
use Rattle.std.proofs.lemmas.Bool.{cases_eq}
use Rattle.sn_forest.specs.Trees.{Trees, none, tree, one_at, uses, count, has_key, subtree, links_of}
use Rattle.sn_forest.proofs.Keys.{one_same, same_key, other_key, missing, present}
use Rattle.sn_forest.proofs.Paths.{Path, top, under, beside, plug, parent_of, path_uses, uses-plug, count-plug, Found, found}
use Rattle.sn_forest.proofs.Passing.{subtree_found, links_found}
use Rattle.sn_tree.specs.declared.item.Item.{Item}
use Rattle.sn_tree.specs.Keyed.{parent_in}

abbrev nothing : Trees Item
nothing = none

-- the nodes above the hole, inside out
abbrev pub above : Path Item → List ℕ
above top = []
above (under key item after p) = key ∷ above p
above (beside key item below p) = above p

abbrev pub among : ℕ → List ℕ → Bool
among k [] = false
among k (x ∷ xs) = if x == k then true else among k xs

less_in : (a b : Bool) (j : ℕ) (whole f g below after : Trees Item) → uses j f ≤ uses j below → uses j g ≤ uses j after → uses j below + uses j after ≤ uses j whole → (h : Trees Item) → uses j h ≤ uses j whole
    → uses j (if a then h else if b then f else g) ≤ uses j whole
less_in true b j whole f g below after p q r h s = s
less_in false true j whole f g below after p q r h s = omega (arith, p, r)
less_in false false j whole f g below after p q r h s = omega (arith, q, r)

uses-subtree : (k j : ℕ) (t : Trees Item) → uses j (subtree k t) ≤ uses j t
uses-subtree k j none = omega arith
uses-subtree k j (tree key item below after) =
    less_in (key == k) (has_key k below) j (tree key item below after) (subtree k below) (subtree k after) below after (uses-subtree k j below) (uses-subtree k j after) (omega arith) (tree key item below none) (omega arith)

-- a node that isn't there is in no tree
not_in : (k : ℕ) (t : Trees Item) (key : ℕ) → uses key t ≡ 0 → has_key key (subtree k t) ≡ false
not_in k t key z = missing key (subtree k t) (omega (arith, z, uses-subtree k key t))

neither : (a b : Bool) (key : ℕ) (f g h : Trees Item) → has_key key h ≡ false → has_key key f ≡ false → has_key key g ≡ false → has_key key (if a then h else if b then f else g) ≡ false
neither true b key f g h p q r = p
neither false true key f g h p q r = q
neither false false key f g h p q r = r

not_this : (b : Bool) (key : ℕ) (h f : Trees Item) → b ≡ false → has_key key f ≡ false → has_key key (if b then h else f) ≡ false
not_this b key h f e q = ap (λ x. has_key key (if x then h else f)) e ∙ q

-- a node in the hole is in the tree of a node above it, and of no other one but those in the hole
within_path : (key k : ℕ) (p : Path Item) (t : Trees Item) → ((j : ℕ) → uses j (plug p t) ≤ 1) → 1 ≤ uses key t → has_key key (subtree k t) ≡ false → has_key key (subtree k (plug p t)) ≡ among k (above p)
within_path key k top t once u h = h
within_path key k (under q item a p) t once u h =
    let free : path_uses q p ≡ 0 = omega (arith, once q, uses-plug q p (tree q item t a), one_same q) in
    let gone : uses key a ≡ 0 = omega (arith, once key, uses-plug key p (tree q item t a), u) in
    ⊎_elim
    (λ (e : q ≡ k).
    let there : has_key key (subtree q (plug p (tree q item t a))) ≡ true = ap (has_key key) (subtree_found p q item t a free) ∙ present key (tree q item t none) (omega (arith, u)) in
    subst (λ x. has_key key (subtree x (plug p (tree q item t a))) ≡ (if q == x then true else among x (above p))) e (there ∙ sym (ap (λ b. if b then true else among q (above p)) (same_key q))))
    (λ (n : q ≢ k).
    within_path key k p (tree q item t a) once (omega (arith, u))
    (not_this (q == k) key (tree q item t none) (if has_key k t then subtree k t else subtree k a) (other_key q k n) (neither false (has_key k t) key (subtree k t) (subtree k a) nothing refl h (not_in k a key gone)))
    ∙ sym (ap (λ b. if b then true else among k (above p)) (other_key q k n)))
    (cases_eq q k)
within_path key k (beside q item b p) t once u h =
    let gone : one_at q key + uses key b ≡ 0 = omega (arith, once key, uses-plug key p (tree q item b t), u) in
    within_path key k p (tree q item b t) once (omega (arith, u))
    (neither (q == k) (has_key k b) key (subtree k b) (subtree k t) (tree q item b none) (missing key (tree q item b none) (omega (arith, gone))) (not_in k b key (omega (arith, gone))) h)

-- the walk up has come to a node
pub record OnWay (trees : Trees Item) (key k at : ℕ) : Type 0 where
  pub path : Path Item
  pub item : Item
  pub below : Trees Item
  pub after : Trees Item
  pub is : trees ≡ plug path (tree at item below after)
  pub told : has_key key (subtree k trees) ≡ among k (at ∷ above path)

abbrev pub IsGoingUp : Trees Item → ℕ → ℕ → Option ℕ → Type 0
IsGoingUp trees key k None = has_key key (subtree k trees) ≡ false
IsGoingUp trees key k (Some at) = OnWay trees key k at

-- how many nodes aren't in the tree of the node to which the walk has come
abbrev pub outside : Trees Item → Option ℕ → ℕ
outside trees None = 0
outside trees (Some at) = 1 + (count trees - count (subtree at trees))

module _ (trees : Trees Item) (key k : ℕ) (once : (j : ℕ) → uses j trees ≤ 1) where
  pub up_start : 1 ≤ uses key trees → IsGoingUp trees key k (Some key)
  up_start u =
      let f : Found key trees = found key top trees u in
      let free : path_uses key f.path + (uses key f.below + uses key f.after) ≡ 0 = omega (arith, once key, ap (λ x. uses key x) f.is, uses-plug key f.path (tree key f.value f.below f.after), one_same key) in
      record { path = f.path; item = f.value; below = f.below; after = f.after; is = f.is; told = told f free }
    where
      told : (f : Found key trees) → path_uses key f.path + (uses key f.below + uses key f.after) ≡ 0 → has_key key (subtree k trees) ≡ among k (key ∷ above f.path)
      told f free =
          ⊎_elim
          (λ (e : key ≡ k).
          subst (λ x. has_key key (subtree x trees) ≡ (if key == x then true else among x (above f.path))) e
          (ap (λ t. has_key key (subtree key t)) f.is
          ∙ (ap (has_key key) (subtree_found f.path key f.value f.below f.after (omega (arith, free)))
          ∙ (present key (tree key f.value f.below none) (omega (arith, one_same key)) ∙ sym (ap (λ b. if b then true else among key (above f.path)) (same_key key))))))
          (λ (n : key ≢ k).
          ap (λ t. has_key key (subtree k t)) f.is
          ∙ (within_path key k f.path (tree key f.value f.below f.after) (λ j. omega (arith, once j, ap (λ x. uses j x) f.is)) (omega (arith, one_same key))
          (not_this (key == k) key (tree key f.value f.below none) (if has_key k f.below then subtree k f.below else subtree k f.after) (other_key key k n)
          (neither false (has_key k f.below) key (subtree k f.below) (subtree k f.after) nothing refl (not_in k f.below key (omega (arith, free))) (not_in k f.after key (omega (arith, free)))))
          ∙ sym (ap (λ b. if b then true else among k (above f.path)) (other_key key k n))))
          (cases_eq key k)

  up_from : (p : Path Item) (t : Trees Item) → trees ≡ plug p t → has_key key (subtree k trees) ≡ among k (above p) → IsGoingUp trees key k (parent_of p)
  up_from top t is told = told
  up_from (under q item a p) t is told = record { path = p; item = item; below = t; after = a; is = is; told = told }
  up_from (beside q item b p) t is told = up_from p (tree q item b t) is told

  up_less : (p : Path Item) (t : Trees Item) (n : ℕ) → trees ≡ plug p t → n ≤ count t → outside trees (parent_of p) < 1 + (count trees - n)
  up_less top t n is m = omega arith
  up_less (under q item a p) t n is m =
      let free : path_uses q p ≡ 0 = omega (arith, once q, ap (λ x. uses q x) is, uses-plug q p (tree q item t a), one_same q) in
      let whole : subtree q trees ≡ tree q item t none = ap (subtree q) is ∙ subtree_found p q item t a free in
      omega (arith, m, ap (λ (x : Trees Item). count x) whole, ap (λ (x : Trees Item). count x) is, count-plug p (tree q item t a))
  up_less (beside q item b p) t n is m = up_less p (tree q item b t) n is (omega (arith, m))

  module _ (at : ℕ) (w : OnWay trees key k at) where
    parent_is : parent_in (links_of at trees) ≡ parent_of w.path
    parent_is =
        let free : path_uses at w.path ≡ 0 = omega (arith, once at, ap (λ x. uses at x) w.is, uses-plug at w.path (tree at w.item w.below w.after), one_same at) in
        ap (λ t. parent_in (links_of at t)) w.is ∙ ap parent_in (links_found w.path at w.item w.below w.after free)

    pub up_next : (next : Option ℕ) → at ≢ k → next ≡ parent_in (links_of at trees) → IsGoingUp trees key k next
    up_next next n e =
        subst (IsGoingUp trees key k) (sym (e ∙ parent_is))
        (up_from w.path (tree at w.item w.below w.after) w.is (w.told ∙ ap (λ b. if b then true else among k (above w.path)) (other_key at k n)))

    pub up_fewer : (next : Option ℕ) → next ≡ parent_in (links_of at trees) → outside trees next < outside trees (Some at)
    up_fewer next e =
        let free : path_uses at w.path ≡ 0 = omega (arith, once at, ap (λ x. uses at x) w.is, uses-plug at w.path (tree at w.item w.below w.after), one_same at) in
        let here : subtree at trees ≡ tree at w.item w.below none = ap (subtree at) w.is ∙ subtree_found w.path at w.item w.below w.after free in
        subst (λ x. outside trees x < outside trees (Some at)) (sym (e ∙ parent_is))
        (up_less w.path (tree at w.item w.below w.after) (count (subtree at trees)) w.is (omega (arith, ap (λ (x : Trees Item). count x) here)))

    pub up_found : at ≡ k → true ≡ has_key key (subtree k trees)
    up_found e = sym (w.told ∙ ap (λ b. if b then true else among k (above w.path)) (subst (λ x. (at == x) ≡ true) e (same_key at)))
