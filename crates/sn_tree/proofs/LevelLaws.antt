-- The first detached node ends, and those just below it stand by themselves.
use Rattle.std.proofs.Common.{◌≡◌, ◌≢◌, ℕ, ◌+◌, ◌<◌, ◌≤◌, ℤ, Option, Some, None, sym, refl, ap, ◌∙◌, subst, arith}
use Rattle.sn_forest.specs.Trees.{Trees, none, tree, one_at, uses, count, first_key, last_key, joined, subtree, without, below_of, value_of, links_of, put_after}
use Rattle.sn_forest.specs.Places.{shifted}
use Rattle.sn_forest.specs.Walking.{behind_node, behind_tree}
use Rattle.sn_forest.specs.declared.links.Links.{Links}
use Rattle.sn_forest.specs.declared.place.Place.TheVariants.{After}
use Rattle.sn_forest.proofs.Keys.{one_same, joined-none, joined-joined, count-joined, uses-joined}
use Rattle.sn_forest.proofs.Paths.{Path, top, under, beside, plug, path_uses, uses-plug}
use Rattle.sn_forest.proofs.Passing.{without_at, after_at, subtree_found, below_found, value_found, links_found}
use Rattle.sn_forest.proofs.Walking.{none_first, some_first}
use Rattle.sn_ids.specs.Pairs.{Table}
use Rattle.sn_tree.specs.declared.item.Item.{Item}
use Rattle.sn_tree.specs.Keyed.{names, last_in, raised, with_behind, first_value}
use Rattle.sn_tree.specs.Stored.{EachOnce, IsStored}
use Rattle.sn_tree.proofs.StoredLaws.{rooted, each-joined}

-- the way to what stands after some trees
abbrev pub along : Trees Item → Path Item → Path Item
along none p = p
along (tree key item below after) p = along after (beside key item below p)

pub along_plug : (t u : Trees Item) (p : Path Item) → plug (along t p) u ≡ plug p (joined t u)
along_plug none u p = refl
along_plug (tree key item below after) u p = along_plug after u (beside key item below p)

-- the last tree of a level
record LastOf (m : ℕ) (t : Trees Item) : Type 0 where
  pub before : Trees Item
  pub item : Item
  pub below : Trees Item
  pub is : t ≡ joined before (tree m item below none)

last_of : (m : ℕ) (t : Trees Item) (start : Option ℕ) → last_key start t ≡ Some m → 1 ≤ count t → LastOf m t
last_of m none start e c = absurd (omega (arith, c))
last_of m (tree key item below none) start e c = record { before = none; item = item; below = below; is = ap (λ x. tree x item below none) (some_first key m e) }
last_of m (tree key item below (tree k i b a)) start e c =
    let l : LastOf m (tree k i b a) = last_of m (tree k i b a) (Some key) e (omega arith) in
    record { before = tree key item below l.before; item = l.item; below = l.below; is = ap (tree key item below) l.is }

has_last : (m : ℕ) (t : Trees Item) → last_key None t ≡ Some m → LastOf m t
has_last m none e = absurd (none_first m e)
has_last m (tree key item below after) e = last_of m (tree key item below after) None e (omega arith)

later_last : (t : Trees Item) (m : ℕ) → last_key (Some m) t ≡ None → ⊥
later_last none m e = none_first m (sym e)
later_last (tree key item below after) m e = later_last after key e

no_last : (t : Trees Item) → last_key None t ≡ None → t ≡ none
no_last none e = refl
no_last (tree key item below after) e = absurd (later_last after key e)

-- what is below the first detached node has come up so far
pub record IsRaising (start now : Trees Item) (first : ℕ) : Type 0 where
  pub key : ℕ
  pub root : Item
  pub attached : Trees Item
  pub item : Item
  pub below : Trees Item
  pub after : Trees Item
  pub is : now ≡ tree key root attached (tree first item below after)
  pub same : with_behind (raised (behind_tree start)) start ≡ tree key root attached (tree first item none (joined below after))

pub raise_start : (start : Trees Item) (first : ℕ) → first_key (behind_tree start) ≡ Some first → IsRaising start start first
raise_start none first e = absurd (none_first first e)
raise_start (tree key root attached none) first e = absurd (none_first first e)
raise_start (tree key root attached (tree k item below after)) first e =
    let here : k ≡ first = some_first k first e in
    record {
      key = key;
      root = root;
      attached = attached;
      item = item;
      below = below;
      after = after;
      is = ap (λ x. tree key root attached (tree x item below after)) here;
      same = ap (λ x. tree key root attached (tree x item none (joined below after))) here;
    }

module _ (start now : Trees Item) (first : ℕ) (h : IsRaising start now first) (once : (j : ℕ) → uses j now ≤ 1) where
  abbrev way : Path Item
  way = beside h.key h.root h.attached top

  first_free : path_uses first way + (uses first h.below + uses first h.after) ≡ 0
  first_free = omega (arith, once first, ap (λ x. uses first x) h.is, one_same first)

  pub raise_links : links_of first now ≡ Some (record { parent = None; previous = Some h.key; next = first_key h.after; first = first_key h.below; last = last_key None h.below })
  raise_links = ap (links_of first) h.is ∙ links_found way first h.item h.below h.after (omega (arith, first_free))

  pub raise_below : below_of first now ≡ h.below
  raise_below = ap (below_of first) h.is ∙ below_found way first h.item h.below h.after (omega (arith, first_free))

  -- all have come up
  pub raise_ends : None ≡ last_in (links_of first now) → now ≡ with_behind (raised (behind_tree start)) start
  raise_ends e =
      let empty : h.below ≡ none = no_last h.below (sym (e ∙ ap last_in raise_links)) in
      h.is ∙ (ap (λ x. tree h.key h.root h.attached (tree first h.item x h.after)) empty
      ∙ (ap (λ x. tree h.key h.root h.attached (tree first h.item none (joined x h.after))) (sym empty) ∙ sym h.same))

  module _ (m : ℕ) (e : Some m ≡ last_in (links_of first now)) where
    abbrev l : LastOf m h.below
    l = has_last m h.below (sym (e ∙ ap last_in raise_links))

    abbrev to_last : Path Item
    to_last = along l.before (under first h.item h.after way)

    now_is : now ≡ plug to_last (tree m l.item l.below none)
    now_is = h.is ∙ (ap (λ x. tree h.key h.root h.attached (tree first h.item x h.after)) l.is ∙ sym (along_plug l.before (tree m l.item l.below none) (under first h.item h.after way)))

    last_free : path_uses m to_last ≡ 0
    last_free = omega (arith, once m, ap (λ x. uses m x) now_is, uses-plug m to_last (tree m l.item l.below none), one_same m)

    pub last_there : 1 ≤ uses m now
    last_there = omega (arith, ap (λ x. uses m x) now_is, uses-plug m to_last (tree m l.item l.below none), one_same m)

    in_below : 1 ≤ uses m h.below
    in_below = omega (arith, ap (λ x. uses m x) l.is, uses-joined m l.before (tree m l.item l.below none), one_same m)

    pub last_inner : first_key now ≢ Some m
    last_inner s =
        let same : h.key ≡ m = some_first h.key m (sym (ap first_key h.is) ∙ s) in
        absurd (omega (arith, once m, ap (λ x. uses m x) h.is, in_below, subst (λ x. one_at x m ≡ 1) (sym same) (one_same m)))

    left : without m now ≡ tree h.key h.root h.attached (tree first h.item l.before h.after)
    left =
        ap (without m) now_is
        ∙ (without_at to_last m l.item l.below none last_free refl
        ∙ (along_plug l.before none (under first h.item h.after way) ∙ ap (λ x. tree h.key h.root h.attached (tree first h.item x h.after)) (joined-none l.before)))

    branch : subtree m now ≡ tree m l.item l.below none
    branch = ap (subtree m) now_is ∙ subtree_found to_last m l.item l.below none last_free

    pub last_place : 1 ≤ uses first (without m now)
    last_place = omega (arith, ap (λ x. uses first x) left, one_same first)

    moved : shifted m (After first) now ≡ tree h.key h.root h.attached (tree first h.item l.before (tree m l.item l.below h.after))
    moved = (λ i. put_after first (branch i) (left i)) ∙ after_at way first h.item l.before h.after (tree m l.item l.below none) (omega (arith, first_free))

    pub raise_next : IsRaising start (shifted m (After first) now) first
    raise_next = record {
      key = h.key;
      root = h.root;
      attached = h.attached;
      item = h.item;
      below = l.before;
      after = tree m l.item l.below h.after;
      is = moved;
      same = h.same ∙ ap (λ x. tree h.key h.root h.attached (tree first h.item none x)) (ap (λ x. joined x h.after) l.is ∙ joined-joined l.before (tree m l.item l.below none) h.after);
    }

    pub raise_fewer : count (below_of first (shifted m (After first) now)) < count (below_of first now)
    raise_fewer =
        let fewer : below_of first (shifted m (After first) now) ≡ l.before =
        ap (below_of first) moved ∙ below_found way first h.item l.before (tree m l.item l.below h.after) (omega (arith, first_free)) in
        omega (arith, ap (λ (x : Trees Item). count x) fewer, ap (λ (x : Trees Item). count x) raise_below, ap (λ (x : Trees Item). count x) l.is, count-joined l.before (tree m l.item l.below none))

-- the first node has come to have none below it, and is removed
module _ (start : Trees Item) (first : ℕ) (once : (j : ℕ) → uses j start ≤ 1) (e : first_key (behind_tree start) ≡ Some first) where
  abbrev s : IsRaising start start first
  s = raise_start start first e

  abbrev level : Trees Item
  level = with_behind (raised (behind_tree start)) start

  abbrev first_way : Path Item
  first_way = beside s.key s.root s.attached top

  free_first : path_uses first first_way + uses first (joined s.below s.after) ≡ 0
  free_first = omega (arith, once first, ap (λ x. uses first x) s.is, one_same first, uses-joined first s.below s.after)

  pub level_there : 1 ≤ uses first level
  level_there = omega (arith, ap (λ x. uses first x) s.same, one_same first)

  pub level_inner : first_key level ≢ Some first
  level_inner f =
      let same : s.key ≡ first = some_first s.key first (sym (ap first_key s.same) ∙ f) in
      absurd (omega (arith, free_first, subst (λ x. one_at x first ≡ 1) (sym same) (one_same first)))

  pub level_leaf : below_of first level ≡ none
  level_leaf = ap (below_of first) s.same ∙ below_found first_way first s.item none (joined s.below s.after) (omega (arith, free_first))

  pub level_value : value_of first level ≡ Some s.item
  level_value = ap (value_of first) s.same ∙ value_found first_way first s.item none (joined s.below s.after) (omega (arith, free_first))

  pub level_first : first_value (behind_tree start) ≡ Some s.item
  level_first = ap (λ t. first_value (behind_tree t)) s.is

  pub level_left : without first level ≡ with_behind (behind_node (behind_tree start)) start
  level_left =
      ap (without first) s.same
      ∙ (without_at first_way first s.item none (joined s.below s.after) (omega (arith, free_first)) (omega (arith, free_first))
      ∙ sym (ap (λ t. with_behind (behind_node (behind_tree t)) t) s.is))

-- each tree below a node has ids at most once
pub each-below : (t : Trees Item) → ((id : ℤ) → names id t ≤ 1) → EachOnce t
each-below none h = tt
each-below (tree key item below after) h = ((λ id. omega (arith, h id)), each-below after (λ id. omega (arith, h id)))

pub ended_stored : (t : Trees Item) (ids : Table) → IsStored t ids → IsStored (with_behind (behind_node (behind_tree t)) t) ids
ended_stored none ids h = h
ended_stored (tree r root below none) ids h = h
ended_stored (tree r root below (tree k item inner after)) ids h = record {
  sound = record {
    root = rooted r root below (tree k item inner after) h.sound.root below (joined inner after);
    distinct = h.sound.distinct;
    aside = each-joined inner after (each-below inner (λ id. omega (arith, h.sound.aside.0 id))) h.sound.aside.1;
  };
  finds = h.finds;
  number = h.number;
  room = omega (arith, h.room, count-joined inner after);
}

-- if nothing is detached
pub none_behind : (t : Trees Item) → None ≡ first_key (behind_tree t) → t ≡ with_behind (behind_node (behind_tree t)) t
none_behind none e = refl
none_behind (tree r root below none) e = refl
none_behind (tree r root below (tree k item inner after)) e = absurd (none_first k e)

pub none_first_value : (t : Trees Item) → None ≡ first_key (behind_tree t) → first_value (behind_tree t) ≡ None
none_first_value none e = refl
none_first_value (tree r root below none) e = refl
none_first_value (tree r root below (tree k item inner after)) e = absurd (none_first k e)

-- what the root is linked with
pub root_next : (t : Trees Item) (root : ℕ) (links : Links) → Some root ≡ first_key t → Some links ≡ links_of root t → links.next ≡ first_key (behind_tree t)
root_next none root links f e = absurd (none_first root (sym f))
root_next (tree r item below after) root links f e =
    let told : links_of r (tree r item below after) ≡ Some (record { parent = None; previous = None; next = first_key after; first = first_key below; last = last_key None below }) =
    links_found top r item below after refl in
    let same : Some links ≡ Some (record { parent = None; previous = None; next = first_key after; first = first_key below; last = last_key None below }) =
    e ∙ (ap (λ k. links_of k (tree r item below after)) (some_first root r f) ∙ told) in
    next_of links (record { parent = None; previous = None; next = first_key after; first = first_key below; last = last_key None below }) same
  where
    next_of : (a b : Links) → Some a ≡ Some b → a.next ≡ b.next
    next_of a b e = cc

pub root_linked : (t : Trees Item) (root : ℕ) → Some root ≡ first_key t → None ≡ links_of root t → ⊥
root_linked none root f e = none_first root (sym f)
root_linked (tree r item below after) root f e =
    let told : links_of r (tree r item below after) ≡ Some (record { parent = None; previous = None; next = first_key after; first = first_key below; last = last_key None below }) =
    links_found top r item below after refl in
    let bad : None ≡ Some (record { parent = None; previous = None; next = first_key after; first = first_key below; last = last_key None below }) =
    e ∙ (ap (λ k. links_of k (tree r item below after)) (some_first root r f) ∙ told) in
    cc
