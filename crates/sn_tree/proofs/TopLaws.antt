-- The last detached tree with an id, sought from the last one on.
use Rattle.std.proofs.Common.{◌≡◌, ◌≢◌, ℕ, ◌+◌, ◌<◌, ◌≤◌, ℤ, Bool, true, false, ◌||◌, Option, Some, None, sym, refl, ap, ◌∙◌, subst, arith}
use Rattle.std.specs.Prelude.{if◌then◌else◌, ◌==◌}
use Rattle.std.specs.Ordering.{int_eq}
use Rattle.sn_forest.specs.Trees.{Trees, none, tree, one_at, uses, first_key, last_key, subtree, without, value_of, links_of}
use Rattle.sn_forest.specs.Walking.{behind_tree}
use Rattle.sn_forest.proofs.Keys.{one_same, same_key, other_key, apart, joined-none}
use Rattle.sn_forest.proofs.Paths.{Path, top, under, beside, plug, previous_of, path_uses, uses-plug}
use Rattle.sn_forest.proofs.Passing.{without_at, subtree_found, value_found, links_found}
use Rattle.sn_forest.proofs.Walking.{none_first, some_first}
use Rattle.sn_tree.specs.Trees.{has_top, last_top, without_last}
use Rattle.sn_tree.specs.declared.item.Item.{Item}
use Rattle.sn_tree.specs.Keyed.{labels, previous_in}
use Rattle.sn_tree.specs.Stored.{IsLastTop, tops}
use Rattle.sn_tree.proofs.Levels.{IsLevel, on_level, last_at}
use Rattle.sn_tree.proofs.LevelLaws.{along, along_plug}

along_level : (t : Trees Item) (p : Path Item) → IsLevel p → IsLevel (along t p)
along_level none p l = l
along_level (tree key item below after) p l = along_level after (beside key item below p) l

along_previous : (t : Trees Item) (p : Path Item) → previous_of (along t p) ≡ last_key (previous_of p) t
along_previous none p = refl
along_previous (tree key item below after) p = along_previous after (beside key item below p)

-- none of the trees from here on has the id
pub record IsSeeking (trees : Trees Item) (id : ℤ) (next : Option ℕ) : Type 0 where
  pub path : Path Item
  pub rest : Trees Item
  pub is : trees ≡ plug path rest
  pub level : IsLevel path
  pub free : has_top id (labels rest) ≡ false
  pub comes : next ≡ previous_of path

pub seek_start : (trees : Trees Item) (id : ℤ) (end : Option ℕ) → end ≡ last_key None trees → IsSeeking trees id end
seek_start trees id end e = record {
  path = along trees top;
  rest = none;
  is = sym (along_plug trees none top ∙ joined-none trees);
  level = along_level trees top tt;
  free = refl;
  comes = e ∙ sym (along_previous trees top);
}

-- the tree to which the search has come
pub record Reached (trees : Trees Item) (id : ℤ) (key : ℕ) : Type 0 where
  pub path : Path Item
  pub item : Item
  pub below : Trees Item
  pub rest : Trees Item
  pub is : trees ≡ plug path (tree key item below rest)
  pub level : IsLevel path
  pub free : has_top id (labels rest) ≡ false

reached_by : (trees : Trees Item) (id : ℤ) (key : ℕ) (p : Path Item) (rest : Trees Item) → trees ≡ plug p rest → IsLevel p → has_top id (labels rest) ≡ false → Some key ≡ previous_of p → Reached trees id key
reached_by trees id key top rest is l free e = absurd (none_first key (sym e))
reached_by trees id key (under k item after p) rest is l free e = absurd l
reached_by trees id key (beside k item below p) rest is l free e =
    record { path = p; item = item; below = below; rest = rest; is = is ∙ ap (λ x. plug p (tree x item below rest)) (some_first k key (sym e)); level = l; free = free }

pub reached : (trees : Trees Item) (id : ℤ) (key : ℕ) → IsSeeking trees id (Some key) → Reached trees id key
reached trees id key s = reached_by trees id key s.path s.rest s.is s.level s.free s.comes

-- after the root
record Behind (p : Path Item) : Type 0 where
  pub key : ℕ
  pub root : Item
  pub below : Trees Item
  pub way : Path Item
  pub level : IsLevel way
  pub is : (t : Trees Item) → plug p t ≡ tree key root below (plug way t)

behind_of : (k : ℕ) (item : Item) (b : Trees Item) (p : Path Item) → IsLevel p → Behind (beside k item b p)
behind_of k item b top l = record { key = k; root = item; below = b; way = top; level = tt; is = λ t. refl }
behind_of k item b (under q i a p) l = absurd l
behind_of k item b (beside q i c p) l =
    let o : Behind (beside q i c p) = behind_of q i c p l in
    record { key = o.key; root = o.root; below = o.below; way = beside k item b o.way; level = o.level; is = λ t. o.is (tree k item b t) }

-- the place of a tree among those of its level
abbrev pub index_of : ℕ → Trees Item → ℕ
index_of k none = 0
index_of k (tree key item below after) = if key == k then 0 else 1 + index_of k after

abbrev pub tops_left : Trees Item → Option ℕ → ℕ
tops_left trees None = 0
tops_left trees (Some key) = 1 + index_of key trees

tops_plug : (k : ℕ) (p : Path Item) (t : Trees Item) → IsLevel p → tops k t ≤ tops k (plug p t)
tops_plug k top t l = omega arith
tops_plug k (under key item after p) t l = absurd l
tops_plug k (beside key item below p) t l = omega (arith, tops_plug k p (tree key item below t) l)

abbrev depth : Path Item → ℕ
depth top = 0
depth (under key item after p) = 0
depth (beside key item below p) = 1 + depth p

index_plug : (k : ℕ) (p : Path Item) (t : Trees Item) → IsLevel p → path_uses k p ≡ 0 → index_of k (plug p t) ≡ depth p + index_of k t
index_plug k top t l z = omega arith
index_plug k (under key item after p) t l z = absurd l
index_plug k (beside key item below p) t l z =
    let here : index_of k (tree key item below t) ≡ 1 + index_of k t = ap (λ b. if b then 0 else 1 + index_of k t) (other_key key k (apart key k (omega (arith, z)))) in
    omega (arith, index_plug k p (tree key item below t) l (omega (arith, z)), here)

first_in_path : (k : ℕ) (item : Item) (b : Trees Item) (p : Path Item) (t : Trees Item) (r : ℕ) → IsLevel p → first_key (plug (beside k item b p) t) ≡ Some r → 1 ≤ path_uses r (beside k item b p)
first_in_path k item b top t r l e = omega (arith, subst (λ x. one_at x r ≡ 1) (sym (some_first k r e)) (one_same r))
first_in_path k item b (under q i a p) t r l e = absurd l
first_in_path k item b (beside q i c p) t r l e = omega (arith, first_in_path q i c p (tree k item b t) r l e)

module _ (trees : Trees Item) (id : ℤ) (root : ℕ) (once : (j : ℕ) → uses j trees ≤ 1) (first : Some root ≡ first_key trees) (key : ℕ) (s : IsSeeking trees id (Some key)) where
  abbrev w : Reached trees id key
  w = reached trees id key s

  free_of : path_uses key w.path + (uses key w.below + uses key w.rest) ≡ 0
  free_of = omega (arith, once key, ap (λ x. uses key x) w.is, uses-plug key w.path (tree key w.item w.below w.rest), one_same key)

  pub seek_value : value_of key trees ≡ Some w.item
  seek_value = ap (value_of key) w.is ∙ value_found w.path key w.item w.below w.rest (omega (arith, free_of))

  before_is : previous_in (links_of key trees) ≡ previous_of w.path
  before_is = ap (λ t. previous_in (links_of key t)) w.is ∙ ap previous_in (links_found w.path key w.item w.below w.rest (omega (arith, free_of)))

  -- the search has come to the root
  pub seek_ends : key ≡ root → has_top id (labels (behind_tree trees)) ≡ false
  seek_ends e = by_path w.path w.is w.level (omega (arith, free_of))
    where
      by_path : (p : Path Item) → trees ≡ plug p (tree key w.item w.below w.rest) → IsLevel p → path_uses key p ≡ 0 → has_top id (labels (behind_tree trees)) ≡ false
      by_path top is l z = ap (λ t. has_top id (labels (behind_tree t))) is ∙ w.free
      by_path (under q i a p) is l z = absurd l
      by_path (beside q i b p) is l z =
          let in_path : 1 ≤ path_uses key (beside q i b p) = first_in_path q i b p (tree key w.item w.below w.rest) key l (sym (ap first_key is) ∙ (sym first ∙ ap (λ x. Some x) (sym e))) in
          absurd (omega (arith, in_path, z))

  -- it goes on
  pub seek_next : (b : Bool) (next : Option ℕ) → ((item : Item) → value_of key trees ≡ Some item → b ≡ int_eq item.id id) → b ≡ false → next ≡ previous_in (links_of key trees)
      → IsSeeking trees id next × (tops_left trees next < tops_left trees (Some key))
  seek_next b next told off e = (
    record {
      path = w.path;
      rest = tree key w.item w.below w.rest;
      is = w.is;
      level = w.level;
      free = (λ i. (sym (told w.item seek_value) ∙ off) i || w.free i);
      comes = e ∙ before_is;
    },
    subst (λ x. tops_left trees x < tops_left trees (Some key)) (sym (e ∙ before_is)) (fewer w.path (tree key w.item w.below w.rest) w.is w.level here),
  )
    where
      here : depth w.path ≤ index_of key trees
      here = omega (arith, ap (λ t. index_of key t) w.is, index_plug key w.path (tree key w.item w.below w.rest) w.level (omega (arith, free_of)))

      fewer : (p : Path Item) (t : Trees Item) → trees ≡ plug p t → IsLevel p → depth p ≤ index_of key trees → tops_left trees (previous_of p) < tops_left trees (Some key)
      fewer top t is l d = omega arith
      fewer (under q i a p) t is l d = absurd l
      fewer (beside q i b p) t is l d =
          let z : path_uses q p ≡ 0 = omega (arith, once q, ap (λ x. uses q x) is, uses-plug q p (tree q i b t), one_same q) in
          let mine : index_of q (tree q i b t) ≡ 0 = ap (λ c. if c then 0 else 1 + index_of q t) (same_key q) in
          omega (arith, d, ap (λ x. index_of q x) is, index_plug q p (tree q i b t) l z, mine)

  -- the tree is found
  pub seek_found : (b : Bool) → key ≢ root → ((item : Item) → value_of key trees ≡ Some item → b ≡ int_eq item.id id) → b ≡ true → IsLastTop trees id key
  seek_found b n told on = by_path w.path w.is w.level (omega (arith, free_of))
    where
      same : int_eq w.item.id id ≡ true
      same = sym (told w.item seek_value) ∙ on

      by_path : (p : Path Item) → trees ≡ plug p (tree key w.item w.below w.rest) → IsLevel p → path_uses key p + (uses key w.below + uses key w.rest) ≡ 0 → IsLastTop trees id key
      by_path top is l z = absurd (n (some_first key root (sym (ap first_key is) ∙ sym first)))
      by_path (under q i a p) is l z = absurd l
      by_path (beside q i b p) is l z =
          let o : Behind (beside q i b p) = behind_of q i b p l in
          let whole : trees ≡ tree o.key o.root o.below (plug o.way (tree key w.item w.below w.rest)) = is ∙ o.is (tree key w.item w.below w.rest) in
          let behind : behind_tree trees ≡ plug o.way (tree key w.item w.below w.rest) = ap behind_tree whole in
          let ends = last_at id o.way key w.item w.below w.rest o.level same w.free in
          let branch : subtree key trees ≡ tree key w.item w.below none = ap (subtree key) is ∙ subtree_found (beside q i b p) key w.item w.below w.rest (omega (arith, z)) in
          let left : without key trees ≡ tree o.key o.root o.below (plug o.way w.rest) =
          ap (without key) is ∙ (without_at (beside q i b p) key w.item w.below w.rest (omega (arith, z)) (omega (arith, z)) ∙ o.is w.rest) in
          record {
            there = omega (arith, ap (λ x. tops key x) behind, tops_plug key o.way (tree key w.item w.below w.rest) o.level, one_same key);
            has = ap (λ t. has_top id (labels t)) behind ∙ (on_level id o.way (tree key w.item w.below w.rest) o.level (ap (λ c. c || has_top id (labels w.rest)) same)).has;
            last = ap (λ t. last_top id (labels t)) behind ∙ (ends.0 ∙ ap labels (sym branch));
            rest = ap (λ t. without_last id (labels t)) behind ∙ (ends.1 ∙ ap (λ t. labels (behind_tree t)) (sym left));
          }

-- no tree before the first one
pub seek_none : (trees : Trees Item) (id : ℤ) → IsSeeking trees id None → has_top id (labels (behind_tree trees)) ≡ false
seek_none trees id s = by_path s.path s.is s.level s.comes
  where
    or_false : (a b : Bool) → (a || b) ≡ false → b ≡ false
    or_false true b f = absurd (let c : true ≡ false = f in cc)
    or_false false b f = f

    behind_free : (t : Trees Item) → has_top id (labels t) ≡ false → has_top id (labels (behind_tree t)) ≡ false
    behind_free none f = f
    behind_free (tree key item below after) f = or_false (int_eq item.id id) (has_top id (labels after)) f

    by_path : (p : Path Item) → trees ≡ plug p s.rest → IsLevel p → None ≡ previous_of p → has_top id (labels (behind_tree trees)) ≡ false
    by_path top is l e = behind_free trees (ap (λ t. has_top id (labels t)) is ∙ s.free)
    by_path (under q i a p) is l e = absurd l
    by_path (beside q i b p) is l e = absurd (none_first q e)
