-- What keeps the index true when a node moves with all below it, on its side or to the other one.
use Rattle.std.proofs.Common.{◌≡◌, ◌≢◌, ℕ, ◌+◌, ◌≤◌, ℤ, Bool, true, false, length, Some, None, sym, ap, ◌∙◌, subst, arith}
use Rattle.std.specs.Prelude.{if◌then◌else◌, nat_lt}
use Rattle.sn_forest.specs.Trees.{Trees, none, tree, one_at, uses, count, has_key, first_key, subtree, without}
use Rattle.sn_forest.specs.Places.{key_of, put, shifted, IsPlaceIn}
use Rattle.sn_forest.specs.declared.place.Place.{Place}
use Rattle.sn_forest.specs.declared.place.Place.TheVariants.{First, Last, Before, After}
use Rattle.sn_forest.proofs.Keys.{other_key}
use Rattle.sn_forest.proofs.Paths.{top, Found, found}
use Rattle.sn_forest.proofs.Passing.{subtree_found}
use Rattle.sn_forest.proofs.Holes.{place_used, alone_on}
use Rattle.sn_forest.proofs.Returning.{Shift, shift}
use Rattle.sn_ids.specs.Pairs.{Table, key_for}
use Rattle.sn_tree.specs.declared.item.Item.{Item}
use Rattle.sn_tree.specs.Keyed.{front, only, named, names, noted}
use Rattle.sn_tree.specs.Stored.{is_within, IsSound, IsStored}
use Rattle.sn_tree.proofs.KeyedLaws.{named-names}
use Rattle.sn_tree.proofs.Indexing.{unnoted}
use Rattle.sn_tree.proofs.Sums.{IsSum, named_sum, names_sum, count_sum, uses_sum, out_all, out_front, in_all, in_front}

-- what changes sides
sides_add : (f : Trees Item → ℕ) (m : IsSum f) (from to : Bool) (t : Trees Item) → f (only from to t) + f (if to then t else none) ≡ f (only to from t) + f (if from then t else none)
sides_add f m true true t = omega (arith, m.nothing)
sides_add f m true false t = omega (arith, m.nothing)
sides_add f m false true t = omega (arith, m.nothing)
sides_add f m false false t = omega (arith, m.nothing)

only_less : (f : Trees Item → ℕ) (m : IsSum f) (from to : Bool) (t : Trees Item) → f (only from to t) ≤ f (if from then t else none)
only_less f m true true t = omega (arith, m.nothing)
only_less f m true false t = omega arith
only_less f m false to t = omega (arith, m.nothing)

if_less : (f : Trees Item → ℕ) (m : IsSum f) (b : Bool) (t : Trees Item) → f (if b then t else none) ≤ f t
if_less f m true t = omega arith
if_less f m false t = omega (arith, m.nothing)

-- what comes to a side isn't on it
only_comes : (f : Trees Item → ℕ) (m : IsSum f) (from to : Bool) (t : Trees Item) → 1 ≤ f (only to from t) → (f (if from then t else none) ≡ 0) × (f (only from to t) ≡ 0)
only_comes f m true true t h = absurd (omega (arith, h, m.nothing))
only_comes f m true false t h = absurd (omega (arith, h, m.nothing))
only_comes f m false true t h = (m.nothing, m.nothing)
only_comes f m false false t h = absurd (omega (arith, h, m.nothing))

pub count-front : (t : Trees Item) → count (front t) ≤ count t
count-front none = omega arith
count-front (tree key item below after) = omega arith

module _ (r : ℕ) (root : Item) (below after : Trees Item) (k : ℕ) (place : Place) (once : (j : ℕ) → uses j (tree r root below after) ≤ 1) (u : 1 ≤ uses k (tree r root below after)) (n : r ≢ k)
    (w : IsPlaceIn (without k (tree r root below after)) place) where
  abbrev all : Trees Item
  all = tree r root below after

  abbrev branch : Trees Item
  branch = subtree k all

  left_is : without k all ≡ tree r root (without k below) (without k after)
  left_is = ap (λ t. if t then without k after else tree r root (without k below) (without k after)) (other_key r k n)

  left_once : (j : ℕ) → uses j (tree r root (without k below) (without k after)) ≤ 1
  left_once j = omega (arith, once j, out_all (λ (t : Trees Item). uses j t) (uses_sum j) k all once u, ap (λ x. uses j x) left_is)

  abbrev top_of : Found k all
  top_of = found k top all u

  branch_is : branch ≡ tree k top_of.value top_of.below none
  branch_is = ap (subtree k) top_of.is ∙ subtree_found top_of.path k top_of.value top_of.below top_of.after (alone_on all k top_of once)

  place_left : IsPlaceIn (tree r root (without k below) (without k after)) place
  place_left = subst (λ t. IsPlaceIn t place) left_is w

  -- the nodes of the root's tree
  pub shift_front : (f : Trees Item → ℕ) (m : IsSum f)
      → f (front (shifted k place all)) + f (if has_key k (front all) then branch else none) ≡ f (front all) + f (if is_within place (without k all) then branch else none)
  shift_front f m =
      let put_in : f (front (shifted k place all)) ≡ f (tree r root (without k below) none) + f (if is_within place (without k all) then branch else none) =
      (λ i. f (front (put place (branch_is i) (left_is i))))
      ∙ (in_front f m r root (without k below) (without k after) left_once place k top_of.value top_of.below place_left
      ∙ (λ i. f (tree r root (without k below) none) + f (if is_within place (sym left_is i) then sym branch_is i else none))) in
      omega (arith, put_in, out_front f m r root below after once k u n, ap (λ t. f (front t)) left_is)

  -- all nodes
  pub shift_all : (f : Trees Item → ℕ) (m : IsSum f) → f (shifted k place all) ≡ f all
  shift_all f m =
      let put_in : f (shifted k place all) ≡ f (tree r root (without k below) (without k after)) + f branch =
      (λ i. f (put place (branch_is i) (left_is i)))
      ∙ (in_all f m place (tree r root (without k below) (without k after)) k top_of.value top_of.below left_once place_left
      ∙ (λ i. f (tree r root (without k below) (without k after)) + f (sym branch_is i))) in
      omega (arith, put_in, out_all f m k all once u, ap f left_is)

  -- the moved node is what it was
  pub shift_branch : subtree k (shifted k place all) ≡ branch
  shift_branch =
      let s : Shift k place all = shift k place all once u (λ e. n (some_key r k e)) w in
      ap (subtree k) s.now
      ∙ (subtree_found s.to k s.value s.below s.rest (omega (arith, s.free_to))
      ∙ sym (ap (subtree k) s.is ∙ subtree_found s.path k s.value s.below s.after (omega (arith, s.free))))
    where
      some_key : (a b : ℕ) → Some a ≡ Some b → a ≡ b
      some_key a b e = cc

  pub shift_used : 1 ≤ uses k (shifted k place all)
  shift_used = omega (arith, u, shift_all (λ (t : Trees Item). uses k t) (uses_sum k))

  -- a place is on the same side before the node goes out
  pub within_same : is_within place (without k all) ≡ is_within place all
  within_same =
      let away : uses (key_of place) branch ≡ 0 = omega (arith, once (key_of place), out_all (λ (t : Trees Item). uses (key_of place) t) (uses_sum (key_of place)) k all once u, place_used (without k all) place w) in
      let same : uses (key_of place) (without k below) ≡ uses (key_of place) below =
      omega (
        arith,
        away,
        out_front (λ (t : Trees Item). uses (key_of place) t) (uses_sum (key_of place)) r root below after once k u n,
        if_less (λ (t : Trees Item). uses (key_of place) t) (uses_sum (key_of place)) (has_key k (tree r root below none)) branch,
        ap (λ t. uses (key_of place) (front t)) left_is,
      ) in
      ap (is_within place) left_is ∙ by_place place same
    where
      by_place : (place : Place) → uses (key_of place) (without k below) ≡ uses (key_of place) below → is_within place (tree r root (without k below) (without k after)) ≡ is_within place all
      by_place (First key) s = ap (λ x. nat_lt 0 (one_at r key + (x + 0))) s
      by_place (Last key) s = ap (λ x. nat_lt 0 (one_at r key + (x + 0))) s
      by_place (Before key) s = ap (λ x. nat_lt 0 x) s
      by_place (After key) s = ap (λ x. nat_lt 0 x) s

  -- the index
  module _ (ids : Table) (h : IsStored all ids) (from to : Bool) (from_is : from ≡ has_key k (front all)) (to_is : to ≡ is_within place all) where
    sides_of : (f : Trees Item → ℕ) (m : IsSum f) → f (front (shifted k place all)) + f (if from then branch else none) ≡ f (front all) + f (if to then branch else none)
    sides_of f m = (λ i. f (front (shifted k place all)) + f (if from_is i then branch else none)) ∙ (shift_front f m ∙ (λ i. f (front all) + f (if (within_same ∙ sym to_is) i then branch else none)))

    -- what leaves the attached nodes is in the index
    pub leaving_there : (id : ℤ) (key : ℕ) → named id key (only from to branch) ≤ noted id key ids.pairs
    leaving_there id key =
        omega (
          arith,
          h.finds id key,
          out_front (named id key) (named_sum id key) r root below after once k u n,
          only_less (named id key) (named_sum id key) from to branch,
          ap (λ (b : Bool). named id key (if b then branch else none)) from_is,
        )

    pub coming_once : IsSound (shifted k place all) → (id : ℤ) → names id (only to from (subtree k (shifted k place all))) ≤ 1
    coming_once sound id =
        omega (
          arith,
          ap (λ t. names id (only to from t)) shift_branch,
          sound.distinct id,
          sides_of (names id) (names_sum id),
          sides_add (names id) (names_sum id) from to branch,
          only_less (names id) (names_sum id) to from branch,
          out_front (names id) (names_sum id) r root below after once k u n,
          ap (λ (b : Bool). names id (if b then branch else none)) from_is,
        )

    module _ (mid : Table) where
      pub coming_absent : ((id : ℤ) (key : ℕ) → noted id key mid.pairs + named id key (only from to branch) ≡ noted id key ids.pairs) → IsSound (shifted k place all)
          → (id : ℤ) → 1 ≤ names id (only to from (subtree k (shifted k place all))) → key_for id mid.pairs ≡ None
      coming_absent gone sound id c =
          let here : 1 ≤ names id (only to from branch) = omega (arith, c, ap (λ t. names id (only to from t)) shift_branch) in
          let none_there : names id (front all) ≡ 0 =
          omega (arith, sound.distinct id, sides_of (names id) (names_sum id), sides_add (names id) (names_sum id) from to branch, here, (only_comes (names id) (names_sum id) from to branch here).0, (only_comes (names id) (names_sum id) from to branch here).1) in
          unnoted id mid.pairs (λ key. omega (arith, gone id key, h.finds id key, named-names id key (front all), none_there))

      pub coming_room : length mid.pairs + count (only from to branch) ≡ length ids.pairs → mid.room ≡ ids.room → length mid.pairs + count (only to from (subtree k (shifted k place all))) ≤ mid.room
      coming_room fewer same_room =
          omega (
            arith,
            ap (λ t. count (only to from t)) shift_branch,
            fewer,
            same_room,
            h.number,
            h.room,
            sides_of (λ (t : Trees Item). count t) count_sum,
            sides_add (λ (t : Trees Item). count t) count_sum from to branch,
            shift_all (λ (t : Trees Item). count t) count_sum,
            count-front (shifted k place all),
            if_less (λ (t : Trees Item). count t) count_sum to branch,
          )

      pub shift_stored : ((id : ℤ) (key : ℕ) → noted id key mid.pairs + named id key (only from to branch) ≡ noted id key ids.pairs) → length mid.pairs + count (only from to branch) ≡ length ids.pairs → mid.room ≡ ids.room
          → IsSound (shifted k place all) → (new : Table) → ((id : ℤ) (key : ℕ) → noted id key new.pairs ≡ noted id key mid.pairs + named id key (only to from (subtree k (shifted k place all))))
          → length new.pairs ≡ length mid.pairs + count (only to from (subtree k (shifted k place all))) → new.room ≡ mid.room → IsStored (shifted k place all) new
      shift_stored gone fewer same_room sound new come more room = record {
        sound = sound;
        finds = λ id key. omega (arith, come id key, gone id key, h.finds id key, ap (λ t. named id key (only to from t)) shift_branch, sides_of (named id key) (named_sum id key), sides_add (named id key) (named_sum id key) from to branch);
        number = omega (arith, more, fewer, h.number, ap (λ t. count (only to from t)) shift_branch, sides_of (λ (t : Trees Item). count t) count_sum, sides_add (λ (t : Trees Item). count t) count_sum from to branch);
        room = omega (arith, room, same_room, h.room, shift_all (λ (t : Trees Item). count t) count_sum);
      }

-- a node and all below it have gone out of the index, if they leave the attached ones
pub record IsForgotten (t : Trees Item) (ids mid : Table) (k : ℕ) (from to : Bool) : Type 0 where
  pub gone : (id : ℤ) (key : ℕ) → noted id key mid.pairs + named id key (only from to (subtree k t)) ≡ noted id key ids.pairs
  pub fewer : length mid.pairs + count (only from to (subtree k t)) ≡ length ids.pairs
  pub room : mid.room ≡ ids.room

-- what a move asks of the index, and what it makes of it
pub record Shifting (t : Trees Item) (ids : Table) (k : ℕ) (place : Place) (from to : Bool) : Type 0 where
  pub there : (id : ℤ) (key : ℕ) → named id key (only from to (subtree k t)) ≤ noted id key ids.pairs
  pub used : 1 ≤ uses k (shifted k place t)
  pub distinct : (mid : Table) → IsForgotten t ids mid k from to → IsSound (shifted k place t) → (id : ℤ) → names id (only to from (subtree k (shifted k place t))) ≤ 1
  pub absent : (mid : Table) → IsForgotten t ids mid k from to → IsSound (shifted k place t) → (id : ℤ) → 1 ≤ names id (only to from (subtree k (shifted k place t))) → key_for id mid.pairs ≡ None
  pub room : (mid : Table) → IsForgotten t ids mid k from to → length mid.pairs + count (only to from (subtree k (shifted k place t))) ≤ mid.room
  pub stored : (mid new : Table) → IsForgotten t ids mid k from to → IsSound (shifted k place t)
      → ((id : ℤ) (key : ℕ) → noted id key new.pairs ≡ noted id key mid.pairs + named id key (only to from (subtree k (shifted k place t))))
      → length new.pairs ≡ length mid.pairs + count (only to from (subtree k (shifted k place t))) → new.room ≡ mid.room → IsStored (shifted k place t) new

pub shifting : (t : Trees Item) (ids : Table) (k : ℕ) (place : Place) (from to : Bool) → ((j : ℕ) → uses j t ≤ 1) → 1 ≤ uses k t → first_key t ≢ Some k → IsPlaceIn (without k t) place
    → IsStored t ids → from ≡ has_key k (front t) → to ≡ is_within place t → Shifting t ids k place from to
shifting none ids k place from to once u n w h from_is to_is = absurd (omega (arith, u))
shifting (tree r root below after) ids k place from to once u n w h from_is to_is =
    let m : r ≢ k = λ e. n (ap (λ x. Some x) e) in
    record {
      there = leaving_there r root below after k place once u m w ids h from to from_is to_is;
      used = shift_used r root below after k place once u m w;
      distinct = λ mid g sound. coming_once r root below after k place once u m w ids h from to from_is to_is sound;
      absent = λ mid g sound. coming_absent r root below after k place once u m w ids h from to from_is to_is mid g.gone sound;
      room = λ mid g. coming_room r root below after k place once u m w ids h from to from_is to_is mid g.fewer g.room;
      stored = λ mid new g sound come more room. shift_stored r root below after k place once u m w ids h from to from_is to_is mid g.gone g.fewer g.room sound new come more room;
    }

-- the same, if the nodes are seen as others
pub shifting_seen : (t seen : Trees Item) → t ≡ seen → (ids : Table) (k : ℕ) (place : Place) (from to : Bool) → ((j : ℕ) → uses j t ≤ 1) → 1 ≤ uses k seen → first_key seen ≢ Some k → IsPlaceIn (without k seen) place
    → IsStored t ids → from ≡ has_key k (front seen) → to ≡ is_within place seen → Shifting t ids k place from to
shifting_seen t seen e ids k place from to once u n w h from_is to_is =
    shifting t ids k place from to once (subst (λ x. 1 ≤ uses k x) (sym e) u) (λ f. n (sym (ap first_key e) ∙ f)) (subst (λ x. IsPlaceIn (without k x) place) (sym e) w) h
    (from_is ∙ ap (λ x. has_key k (front x)) (sym e)) (to_is ∙ ap (is_within place) (sym e))
