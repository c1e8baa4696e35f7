-- What is summed over nodes, each of which counts for itself: when a node goes out, and when one is put in.
use Rattle.std.proofs.Common.{◌≡◌, ◌≢◌, ℕ, ◌+◌, ◌≤◌, ℤ, true, false, ◌&&◌, Some, sym, refl, ap, ◌∙◌, ⊎_elim, arith}
use Rattle.std.specs.Prelude.{if◌then◌else◌, ◌==◌}
use Rattle.std.specs.Ordering.{int_eq}
use Rattle.std.proofs.lemmas.Bool.{cases_Bool}
use Rattle.sn_forest.specs.Trees.{Trees, none, tree, one_at, uses, count, has_key, joined, subtree, without}
use Rattle.sn_forest.specs.Places.{key_of, put, IsPlaceIn}
use Rattle.sn_forest.specs.declared.place.Place.{Place}
use Rattle.sn_forest.specs.declared.place.Place.TheVariants.{First, Last, Before, After}
use Rattle.sn_forest.proofs.Keys.{some_or_none, one_same, other_key, apart, missing, present}
use Rattle.sn_forest.proofs.Paths.{Path, top, under, beside, plug, path_uses, uses-plug, Found, found}
use Rattle.sn_forest.proofs.Passing.{without_at, subtree_found}
use Rattle.sn_forest.proofs.Holes.{Gap, gap}
use Rattle.sn_tree.specs.declared.item.Item.{Item}
use Rattle.sn_tree.specs.Keyed.{front, counted, named, names}
use Rattle.sn_tree.specs.Stored.{IsBelowRoot, is_within}
use Rattle.sn_tree.proofs.Away.{without_absent, first_absent, last_absent, before_absent, after_absent}
use Rattle.sn_tree.proofs.KeyedLaws.{Fronted, fronted}

-- each node counts for itself
pub record IsSum (f : Trees Item → ℕ) : Type 0 where
  pub weight : ℕ → Item → ℕ
  pub nothing : f none ≡ 0
  pub node : (key : ℕ) (item : Item) (below after : Trees Item) → f (tree key item below after) ≡ weight key item + (f below + f after)

abbrev pub named_sum : (id : ℤ) (key : ℕ) → IsSum (named id key)
named_sum id key = record { weight = λ k item. counted (int_eq item.id id && (k == key)); nothing = refl; node = λ k item below after. refl }

abbrev pub names_sum : (id : ℤ) → IsSum (names id)
names_sum id = record { weight = λ k item. counted (int_eq item.id id); nothing = refl; node = λ k item below after. refl }

abbrev pub count_sum : IsSum (λ (t : Trees Item). count t)
count_sum = record { weight = λ k item. 1; nothing = refl; node = λ k item below after. refl }

abbrev pub uses_sum : (key : ℕ) → IsSum (λ (t : Trees Item). uses key t)
uses_sum key = record { weight = λ k item. one_at k key; nothing = refl; node = λ k item below after. refl }

-- a key that is there is used
pub has_used : (k : ℕ) (t : Trees Item) → has_key k t ≡ true → 1 ≤ uses k t
has_used k t e = ⊎_elim (λ u. u) (λ (u : uses k t ≤ 0). absurd (let c : true ≡ false = sym e ∙ missing k t (omega (arith, u)) in cc)) (some_or_none (uses k t))

pub has_not : (k : ℕ) (t : Trees Item) → has_key k t ≡ false → uses k t ≡ 0
has_not k t e = ⊎_elim (λ u. absurd (let c : true ≡ false = sym (present k t u) ∙ e in cc)) (λ (u : uses k t ≤ 0). omega (arith, u)) (some_or_none (uses k t))

-- a place in the root's tree is not beside the root
pub record Within (r : ℕ) (root : Item) (below after : Trees Item) (place : Place) : Type 0 where
  pub inside : IsPlaceIn (tree r root below none) place
  pub below_root : IsBelowRoot place r
  pub away : uses (key_of place) after ≡ 0

module _ (r : ℕ) (root : Item) (below after : Trees Item) (once : (j : ℕ) → uses j (tree r root below after) ≤ 1) where
  not_r : (key : ℕ) → 1 ≤ uses key below → r ≢ key
  not_r key u = apart r key (omega (arith, once key, u))

  pub within_there : (place : Place) → IsPlaceIn (tree r root below after) place → is_within place (tree r root below after) ≡ true → Within r root below after place
  within_there (First key) w e =
      let u : 1 ≤ uses key (tree r root below none) = has_used key (tree r root below none) e in
      record { inside = u; below_root = tt; away = omega (arith, once key, u) }
  within_there (Last key) w e =
      let u : 1 ≤ uses key (tree r root below none) = has_used key (tree r root below none) e in
      record { inside = u; below_root = tt; away = omega (arith, once key, u) }
  within_there (Before key) w e =
      let u : 1 ≤ uses key below = has_used key below e in
      record { inside = (omega (arith, u), w.1); below_root = not_r key u; away = omega (arith, once key, u) }
  within_there (After key) w e =
      let u : 1 ≤ uses key below = has_used key below e in
      record { inside = omega (arith, u); below_root = not_r key u; away = omega (arith, once key, u) }

  -- what is put elsewhere leaves the root's tree as it is
  pub within_not : (place : Place) (new : Trees Item) → IsPlaceIn (tree r root below after) place → is_within place (tree r root below after) ≡ false → front (put place new (tree r root below after)) ≡ tree r root below none
  within_not (First key) new w e =
      let z : uses key (tree r root below none) ≡ 0 = has_not key (tree r root below none) e in
      ap (λ t. front (if t then tree r root (joined new below) after else tree r root (put (First key) new below) (put (First key) new after))) (other_key r key (apart r key (omega (arith, z))))
      ∙ ap (λ x. tree r root x none) (first_absent key new below (omega (arith, z)))
  within_not (Last key) new w e =
      let z : uses key (tree r root below none) ≡ 0 = has_not key (tree r root below none) e in
      ap (λ t. front (if t then tree r root (joined below new) after else tree r root (put (Last key) new below) (put (Last key) new after))) (other_key r key (apart r key (omega (arith, z))))
      ∙ ap (λ x. tree r root x none) (last_absent key new below (omega (arith, z)))
  within_not (Before key) new w e =
      let z : uses key below ≡ 0 = has_not key below e in
      let n : r ≢ key = λ s. w.1 (ap (λ x. Some x) s) in
      ap (λ t. front (if t then joined new (tree r root below after) else tree r root (put (Before key) new below) (put (Before key) new after))) (other_key r key n)
      ∙ ap (λ x. tree r root x none) (before_absent key new below z)
  within_not (After key) new w e =
      let z : uses key below ≡ 0 = has_not key below e in
      ⊎_elim
      (λ (s : (r == key) ≡ true). ap (λ t. front (if t then tree r root below (joined new after) else tree r root (put (After key) new below) (put (After key) new after))) s)
      (λ (s : (r == key) ≡ false).
      ap (λ t. front (if t then tree r root below (joined new after) else tree r root (put (After key) new below) (put (After key) new after))) s
      ∙ ap (λ x. tree r root x none) (after_absent key new below z))
      (cases_Bool (r == key))

module _ (f : Trees Item → ℕ) (m : IsSum f) where
  pub sum-plug : (p : Path Item) (t : Trees Item) → f (plug p t) ≡ f (plug p none) + f t
  sum-plug top t = omega (arith, m.nothing)
  sum-plug (under key item after p) t =
      omega (arith, sum-plug p (tree key item t after), sum-plug p (tree key item none after), m.node key item t after, m.node key item none after, m.nothing)
  sum-plug (beside key item below p) t =
      omega (arith, sum-plug p (tree key item below t), sum-plug p (tree key item below none), m.node key item below t, m.node key item below none, m.nothing)

  -- a node goes out of all
  pub out_all : (k : ℕ) (t : Trees Item) → ((j : ℕ) → uses j t ≤ 1) → 1 ≤ uses k t → f (without k t) + f (subtree k t) ≡ f t
  out_all k t once u =
      let g : Found k t = found k top t u in
      let z : path_uses k g.path + (uses k g.below + uses k g.after) ≡ 0 = omega (arith, once k, ap (λ x. uses k x) g.is, uses-plug k g.path (tree k g.value g.below g.after), one_same k) in
      let left : without k t ≡ plug g.path g.after = ap (without k) g.is ∙ without_at g.path k g.value g.below g.after (omega (arith, z)) (omega (arith, z)) in
      let branch : subtree k t ≡ tree k g.value g.below none = ap (subtree k) g.is ∙ subtree_found g.path k g.value g.below g.after (omega (arith, z)) in
      omega (arith, ap f left, ap f branch, ap f g.is, sum-plug g.path (tree k g.value g.below g.after), sum-plug g.path g.after, m.node k g.value g.below g.after, m.node k g.value g.below none, m.nothing)

  -- a node is put in
  pub in_all : (place : Place) (t : Trees Item) (k : ℕ) (item : Item) (below : Trees Item) → ((j : ℕ) → uses j t ≤ 1) → IsPlaceIn t place → f (put place (tree k item below none) t) ≡ f t + f (tree k item below none)
  in_all place t k item below once w =
      let g : Gap place t = gap place t once w in
      omega (arith, ap f (g.puts k item below), ap f g.is, sum-plug g.path g.after, sum-plug g.path (tree k item below g.after), m.node k item below g.after, m.node k item below none, m.nothing)

  module _ (r : ℕ) (root : Item) (below after : Trees Item) (once : (j : ℕ) → uses j (tree r root below after) ≤ 1) where
    -- of the root's tree, when a node goes out of it or of the other trees
    pub out_front : (k : ℕ) → 1 ≤ uses k (tree r root below after) → r ≢ k
        → f (front (without k (tree r root below after))) + f (if has_key k (tree r root below none) then subtree k (tree r root below after) else none) ≡ f (tree r root below none)
    out_front k u n =
        let now : front (without k (tree r root below after)) ≡ tree r root (without k below) none =
        ap (λ t. front (if t then without k after else tree r root (without k below) (without k after))) (other_key r k n) in
        ⊎_elim
        (λ (b : 1 ≤ uses k below).
        let is : has_key k (tree r root below none) ≡ true = present k (tree r root below none) (omega (arith, b)) in
        let branch : subtree k (tree r root below after) ≡ subtree k below =
        (λ i. if other_key r k n i then tree r root below none else if present k below b i then subtree k below else subtree k after) in
        let kept : (if has_key k (tree r root below none) then subtree k (tree r root below after) else none) ≡ subtree k below =
        (λ i. if is i then branch i else none) in
        omega (arith, ap f now, ap f kept, out_all k below (λ j. omega (arith, once j)) b, m.node r root below none, m.node r root (without k below) none))
        (λ (b : uses k below ≤ 0).
        let not : has_key k (tree r root below none) ≡ false = missing k (tree r root below none) (omega (arith, b, one_at_zero r k n)) in
        let kept : (if has_key k (tree r root below none) then subtree k (tree r root below after) else none) ≡ none =
        ap (λ t. if t then subtree k (tree r root below after) else none) not in
        omega (arith, ap f now, ap f kept, ap (λ x. f (tree r root x none)) (without_absent k below (omega (arith, b))), m.nothing))
        (some_or_none (uses k below))
      where
        one_at_zero : (a b : ℕ) → a ≢ b → one_at a b ≡ 0
        one_at_zero a b n = ap {B = ℕ} (λ t. if t then 1 else 0) (other_key a b n)

    -- of the root's tree, when a node is put into it or elsewhere
    pub in_front : (place : Place) (k : ℕ) (item : Item) (inner : Trees Item) → IsPlaceIn (tree r root below after) place
        → f (front (put place (tree k item inner none) (tree r root below after))) ≡ f (tree r root below none) + f (if is_within place (tree r root below after) then tree k item inner none else none)
    in_front place k item inner w =
        ⊎_elim
        (λ (e : is_within place (tree r root below after) ≡ true).
        let i : Within r root below after place = within_there r root below after once place w e in
        let o : Fronted r root below after place (tree k item inner none) = fronted r root below after place (tree k item inner none) i.away i.below_root in
        let same : front (put place (tree k item inner none) (tree r root below after)) ≡ put place (tree k item inner none) (tree r root below none) = ap front o.whole ∙ sym o.alone in
        let kept : (if is_within place (tree r root below after) then tree k item inner none else none) ≡ tree k item inner none = ap (λ t. if t then tree k item inner none else none) e in
        omega (arith, ap f same, ap f kept, in_all place (tree r root below none) k item inner (λ j. omega (arith, once j)) i.inside))
        (λ (e : is_within place (tree r root below after) ≡ false).
        let kept : (if is_within place (tree r root below after) then tree k item inner none else none) ≡ none = ap (λ t. if t then tree k item inner none else none) e in
        omega (arith, ap f kept, ap f (within_not r root below after once place (tree k item inner none) w e), m.nothing))
        (cases_Bool (is_within place (tree r root below after)))
