-- A node is paused, or runs.
use Rattle.std.proofs.Common.{◌≡◌, ◌≢◌, ℕ, ◌≤◌, ℤ, Bool, true, false, Some, sym, refl, ap, ◌∙◌, subst, ⊎_elim, arith}
use Rattle.std.specs.Prelude.{if◌then◌else◌, ◌==◌}
use Rattle.std.proofs.lemmas.Bool.{cases_Bool}
use Rattle.sn_forest.specs.Trees.{Trees, none, tree, uses, count, value_of, with_value}
use Rattle.sn_forest.specs.Walking.{behind_tree}
use Rattle.sn_forest.proofs.Keys.{same_key, other_key}
use Rattle.sn_forest.proofs.Paths.{Path, top, plug, path_uses, Found, found}
use Rattle.sn_forest.proofs.Passing.{passes, value_at, value_found}
use Rattle.sn_forest.proofs.Holes.{alone_on}
use Rattle.sn_ids.specs.Pairs.{Table}
use Rattle.sn_tree.specs.declared.item.Item.{Item}
use Rattle.sn_tree.specs.Keyed.{front, flagged, named, names}
use Rattle.sn_tree.specs.Stored.{EachOnce, IsRoot, IsSound, IsStored}
use Rattle.sn_tree.proofs.StoredLaws.{rooted}
use Rattle.sn_tree.proofs.Sums.{IsSum, named_sum, names_sum, count_sum}

abbrev pub with_flag : Bool → Item → Item
with_flag on item = record item { running = on }

pub flag_step : (k : ℕ) (on : Bool) (key : ℕ) (item : Item) (below after : Trees Item) → key ≢ k → flagged k on (tree key item below after) ≡ tree key item (flagged k on below) (flagged k on after)
flag_step k on key item below after n = ap (λ b. if b then tree key (with_flag on item) below after else tree key item (flagged k on below) (flagged k on after)) (other_key key k n)

pub flag_at : (p : Path Item) (k : ℕ) (on : Bool) (item : Item) (below after : Trees Item) → path_uses k p ≡ 0 → flagged k on (plug p (tree k item below after)) ≡ plug p (tree k (with_flag on item) below after)
flag_at p k on item below after z =
    passes (flagged k on) k refl (flag_step k on) p (tree k item below after) z
    ∙ ap (λ b. plug p (if b then tree k (with_flag on item) below after else tree k item (flagged k on below) (flagged k on after))) (same_key k)

-- the node holds the same except for the flag
pub flag_is : (t : Trees Item) (k : ℕ) (on : Bool) (item : Item) → ((j : ℕ) → uses j t ≤ 1) → 1 ≤ uses k t → Some item ≡ value_of k t → with_value k (with_flag on item) t ≡ flagged k on t
flag_is t k on item once u held =
    let f : Found k t = found k top t u in
    let z : path_uses k f.path ≡ 0 = alone_on t k f once in
    let same : item ≡ f.value = same_value item f.value (held ∙ (ap (value_of k) f.is ∙ value_found f.path k f.value f.below f.after z)) in
    ap (with_value k (with_flag on item)) f.is
    ∙ (value_at f.path k f.value (with_flag on item) f.below f.after z
    ∙ (ap (λ x. plug f.path (tree k (with_flag on x) f.below f.after)) same
    ∙ (sym (flag_at f.path k on f.value f.below f.after z) ∙ ap (flagged k on) (sym f.is))))
  where
    same_value : (a b : Item) → Some a ≡ Some b → a ≡ b
    same_value a b e = cc

-- what counts no flags
module _ (f : Trees Item → ℕ) (m : IsSum f) (same : (key : ℕ) (on : Bool) (item : Item) → m.weight key (with_flag on item) ≡ m.weight key item) where
  pub flag_sum : (k : ℕ) (on : Bool) (t : Trees Item) → f (flagged k on t) ≡ f t
  flag_sum k on none = refl
  flag_sum k on (tree key item below after) =
      ⊎_elim
      (λ (e : (key == k) ≡ true).
      let now : flagged k on (tree key item below after) ≡ tree key (with_flag on item) below after = ap (λ b. if b then tree key (with_flag on item) below after else tree key item (flagged k on below) (flagged k on after)) e in
      omega (arith, ap f now, m.node key (with_flag on item) below after, m.node key item below after, same key on item))
      (λ (e : (key == k) ≡ false).
      let now : flagged k on (tree key item below after) ≡ tree key item (flagged k on below) (flagged k on after) = ap (λ b. if b then tree key (with_flag on item) below after else tree key item (flagged k on below) (flagged k on after)) e in
      omega (arith, ap f now, m.node key item (flagged k on below) (flagged k on after), m.node key item below after, flag_sum k on below, flag_sum k on after))
      (cases_Bool (key == k))

  pub flag_front : (k : ℕ) (on : Bool) (t : Trees Item) → f (front (flagged k on t)) ≡ f (front t)
  flag_front k on none = refl
  flag_front k on (tree key item below after) =
      ⊎_elim
      (λ (e : (key == k) ≡ true).
      let now : front (flagged k on (tree key item below after)) ≡ tree key (with_flag on item) below none = ap (λ b. front (if b then tree key (with_flag on item) below after else tree key item (flagged k on below) (flagged k on after))) e in
      omega (arith, ap f now, m.node key (with_flag on item) below none, m.node key item below none, same key on item))
      (λ (e : (key == k) ≡ false).
      let now : front (flagged k on (tree key item below after)) ≡ tree key item (flagged k on below) none = ap (λ b. front (if b then tree key (with_flag on item) below after else tree key item (flagged k on below) (flagged k on after))) e in
      omega (arith, ap f now, m.node key item (flagged k on below) none, m.node key item below none, flag_sum k on below))
      (cases_Bool (key == k))

names_flag : (id : ℤ) (k : ℕ) (on : Bool) (t : Trees Item) → names id (flagged k on t) ≡ names id t
names_flag id k on t = flag_sum (names id) (names_sum id) (λ key on item. refl) k on t

each-flagged : (k : ℕ) (on : Bool) (t : Trees Item) → EachOnce t → EachOnce (flagged k on t)
each-flagged k on none h = h
each-flagged k on (tree key item below after) h =
    ⊎_elim
    (λ (e : (key == k) ≡ true). subst (λ b. EachOnce (if b then tree key (with_flag on item) below after else tree key item (flagged k on below) (flagged k on after))) (sym e) h)
    (λ (e : (key == k) ≡ false). subst (λ b. EachOnce (if b then tree key (with_flag on item) below after else tree key item (flagged k on below) (flagged k on after))) (sym e)
    ((λ id. omega (arith, h.0 id, names_flag id k on below)), each-flagged k on after h.1))
    (cases_Bool (key == k))

flag_root : (k : ℕ) (on : Bool) (t : Trees Item) → IsRoot t → EachOnce (behind_tree t) → IsRoot (flagged k on t) × EachOnce (behind_tree (flagged k on t))
flag_root k on none h o = (h, o)
flag_root k on (tree key item below after) h o =
    let same : IsRoot (tree key item below after) = rooted key item below after h below after in
    ⊎_elim
    (λ (e : (key == k) ≡ true). subst (λ b. IsRoot (if b then tree key (with_flag on item) below after else tree key item (flagged k on below) (flagged k on after))
    × EachOnce (behind_tree (if b then tree key (with_flag on item) below after else tree key item (flagged k on below) (flagged k on after)))) (sym e)
    (root_flag same, o))
    (λ (e : (key == k) ≡ false). subst (λ b. IsRoot (if b then tree key (with_flag on item) below after else tree key item (flagged k on below) (flagged k on after))
    × EachOnce (behind_tree (if b then tree key (with_flag on item) below after else tree key item (flagged k on below) (flagged k on after)))) (sym e)
    (rooted key item below after h (flagged k on below) (flagged k on after), each-flagged k on after o))
    (cases_Bool (key == k))
  where
    item_in : Trees Item → Item → Item
    item_in none d = d
    item_in (tree k i b a) d = i

    root_flag : IsRoot (tree key item below after) → IsRoot (tree key (with_flag on item) below after)
    root_flag h = record {
      key = key;
      item = with_flag on item;
      below = below;
      after = after;
      is = refl;
      id = ap (λ t. let x : Item = item_in t item in x.id) h.is ∙ h.id;
      kind = ap (λ t. let x : Item = item_in t item in x.kind) h.is ∙ h.kind;
      apart = ap (λ t. let x : Item = item_in t item in x.key) h.is ∙ h.apart;
    }

pub flag_sound : (k : ℕ) (on : Bool) (t : Trees Item) → IsSound t → IsSound (flagged k on t)
flag_sound k on t h =
    let r = flag_root k on t h.root h.aside in
    record {
      root = r.0;
      distinct = λ id. omega (arith, h.distinct id, flag_front (names id) (names_sum id) (λ key on item. refl) k on t);
      aside = r.1;
    }

pub flag_stored : (k : ℕ) (on : Bool) (t : Trees Item) (ids : Table) → IsStored t ids → IsStored (flagged k on t) ids
flag_stored k on t ids h = record {
  sound = flag_sound k on t h.sound;
  finds = λ id key. omega (arith, h.finds id key, flag_front (named id key) (named_sum id key) (λ key on item. refl) k on t);
  number = omega (arith, h.number, flag_front (λ (t : Trees Item). count t) count_sum (λ key on item. refl) k on t);
  room = omega (arith, h.room, flag_sum (λ (t : Trees Item). count t) count_sum (λ key on item. refl) k on t);
}
