-- What stays true of the nodes when some are put in, moved or taken out.
use Rattle.std.proofs.Common.{◌≡◌, ◌≢◌, ℕ, ◌+◌, ◌≤◌, ℤ, pos, Bool, true, false, ◌&&◌, [], length, Some, None, sym, refl, ap, ◌∙◌, subst, ⊎_elim, arith}
use Rattle.std.specs.Prelude.{if◌then◌else◌, ◌==◌}
use Rattle.std.specs.Ordering.{int_eq}
use Rattle.std.proofs.lemmas.Bool.{cases_Bool}
use Rattle.std.proofs.lemmas.Bool.Decides.{Decides-int_eq}
use Rattle.sn_forest.specs.Trees.{Trees, none, tree, uses, count, has_key, first_key, last_key, joined, subtree, without}
use Rattle.sn_forest.specs.Places.{key_of, put, shifted, IsPlaceIn}
use Rattle.sn_forest.specs.Walking.{behind_tree}
use Rattle.sn_forest.specs.declared.place.Place.{Place}
use Rattle.sn_forest.specs.declared.place.Place.TheVariants.{After}
use Rattle.sn_forest.proofs.Keys.{one_same, apart, other_key, present}
use Rattle.sn_forest.proofs.Paths.{top, plug, Found, found}
use Rattle.sn_forest.proofs.Passing.{subtree_found}
use Rattle.sn_forest.proofs.Holes.{alone_on, place_used}
use Rattle.sn_forest.proofs.Walking.{some_first}
use Rattle.sn_ids.specs.Pairs.{Pairs, Table, key_for}
use Rattle.sn_tree.specs.declared.item.Item.{Item}
use Rattle.sn_tree.specs.Keyed.{front, only, counted, named, names, noted}
use Rattle.sn_tree.specs.Stored.{EachOnce, IsRoot, IsSound, IsStored, IsAmong}
use Rattle.sn_tree.specs.declared.node.NodeKind.TheVariants.{Group}
use Rattle.sn_tree.proofs.KeyedLaws.{Fronted, fronted, branch_is, detach_now, left_names, left_count, named-names}
use Rattle.sn_tree.proofs.Indexing.{given, unnoted}
use Rattle.sn_tree.proofs.StoredLaws.{rooted, each-joined}
use Rattle.sn_tree.proofs.Sums.{IsSum, Within, within_there, named_sum, names_sum, count_sum, uses_sum, out_all, out_front, in_all, in_front}
use Rattle.sn_tree.proofs.ShiftLaws.{IsForgotten, shift_front, count-front}

-- a node goes out of trees in which no id is twice
names-without : (id : ℤ) (k : ℕ) (t : Trees Item) → names id (without k t) ≤ names id t
names-without id k none = omega arith
names-without id k (tree key item below after) =
    by_key (key == k) (tree key item (without k below) (without k after)) (omega (arith, names-without id k after)) (omega (arith, names-without id k below, names-without id k after))
  where
    by_key : (b : Bool) (t : Trees Item) → names id (without k after) ≤ names id (tree key item below after) → names id t ≤ names id (tree key item below after) → names id (if b then without k after else t) ≤ names id (tree key item below after)
    by_key true t p q = p
    by_key false t p q = q

pub each-without : (k : ℕ) (t : Trees Item) → EachOnce t → EachOnce (without k t)
each-without k none h = h
each-without k (tree key item below after) h =
    by_key (key == k) (tree key item (without k below) (without k after)) (each-without k after h.1) ((λ id. omega (arith, h.0 id, names-without id k below)), each-without k after h.1)
  where
    by_key : (b : Bool) (t : Trees Item) → EachOnce (without k after) → EachOnce t → EachOnce (if b then without k after else t)
    by_key true t p q = p
    by_key false t p q = q

only_if : (f : Trees Item → ℕ) (m : IsSum f) (b : Bool) (t : Trees Item) → f (only b false t) ≡ f (if b then t else none)
only_if f m true t = refl
only_if f m false t = refl

module _ (r : ℕ) (root : Item) (below after : Trees Item) (once : (j : ℕ) → uses j (tree r root below after) ≤ 1) where
  abbrev all : Trees Item
  all = tree r root below after

  -- a new node is put among the attached ones
  module _ (place : Place) (key : ℕ) (item : Item) (w : IsAmong all place) where
    abbrev leaf : Trees Item
    leaf = tree key item none none

    added : (f : Trees Item → ℕ) (m : IsSum f) → f (front (put place leaf all)) ≡ f (tree r root below none) + f leaf
    added f m = in_front f m r root below after once place key item none w.0 ∙ ap (λ b. f (tree r root below none) + f (if b then leaf else none)) w.1

    abbrev fronts : Fronted r root below after place leaf
    fronts =
        let i : Within r root below after place = within_there r root below after once place w.0 w.1 in
        fronted r root below after place leaf i.away i.below_root

    pub put_sound : IsSound all → names item.id (front all) ≡ 0 → IsSound (put place leaf all)
    put_sound h absent = record {
      root = subst IsRoot (sym fronts.whole) (rooted r root below after h.root fronts.inside after);
      distinct = λ id. omega (arith, added (names id) (names_sum id), one_more id);
      aside = subst (λ t. EachOnce (behind_tree t)) (sym fronts.whole) h.aside;
    }
      where
        one_more : (id : ℤ) → names id (front all) + names id leaf ≤ 1
        one_more id =
            ⊎_elim
            (λ (e : int_eq item.id id ≡ true).
            omega (arith, ap counted e, subst (λ x. names x (front all) ≡ 0) ((Decides-int_eq item.id id).0 e) absent))
            (λ (e : int_eq item.id id ≡ false). omega (arith, ap counted e, h.distinct id))
            (cases_Bool (int_eq item.id id))

    pub put_stored : (ids new : Table) → IsStored all ids → names item.id (front all) ≡ 0
        → ((x : ℤ) (j : ℕ) → noted x j new.pairs ≡ noted x j ids.pairs + counted (int_eq item.id x && (key == j)))
        → length new.pairs ≡ length ids.pairs + 1 → count all + 1 ≤ new.room → IsStored (put place leaf all) new
    put_stored ids new h absent come long room = record {
      sound = put_sound h.sound absent;
      finds = λ x j. omega (arith, come x j, h.finds x j, added (named x j) (named_sum x j));
      number = omega (arith, long, h.number, added (λ (t : Trees Item). count t) count_sum);
      room = omega (arith, room, in_all (λ (t : Trees Item). count t) count_sum place all key item none once w.0);
    }

  -- a node is taken out
  module _ (k : ℕ) (u : 1 ≤ uses k all) (n : r ≢ k) where
    out_is : without k all ≡ tree r root (without k below) (without k after)
    out_is = ap (λ t. if t then without k after else tree r root (without k below) (without k after)) (other_key r k n)

    pub out_sound : IsSound all → IsSound (without k all)
    out_sound h = record {
      root = subst IsRoot (sym out_is) (rooted r root below after h.root (without k below) (without k after));
      distinct = λ id. omega (arith, h.distinct id, out_front (names id) (names_sum id) r root below after once k u n);
      aside = subst (λ t. EachOnce (behind_tree t)) (sym out_is) (each-without k after h.aside);
    }

    pub out_there : (ids : Table) (from : Bool) → IsStored all ids → from ≡ has_key k (front all) → (id : ℤ) (key : ℕ) → named id key (only from false (subtree k all)) ≤ noted id key ids.pairs
    out_there ids from h is id key =
        omega (arith, h.finds id key, out_front (named id key) (named_sum id key) r root below after once k u n, only_if (named id key) (named_sum id key) from (subtree k all), ap (λ (b : Bool). named id key (if b then subtree k all else none)) is)

    pub out_stored : (ids new : Table) (from : Bool) → IsStored all ids → from ≡ has_key k (front all)
        → ((id : ℤ) (key : ℕ) → noted id key new.pairs + named id key (only from false (subtree k all)) ≡ noted id key ids.pairs)
        → length new.pairs + count (only from false (subtree k all)) ≡ length ids.pairs → new.room ≡ ids.room → IsStored (without k all) new
    out_stored ids new from h is gone fewer room = record {
      sound = out_sound h.sound;
      finds = λ id key. omega (
        arith,
        gone id key,
        h.finds id key,
        out_front (named id key) (named_sum id key) r root below after once k u n,
        only_if (named id key) (named_sum id key) from (subtree k all),
        ap (λ (b : Bool). named id key (if b then subtree k all else none)) is,
      );
      number = omega (
        arith,
        fewer,
        h.number,
        out_front (λ (t : Trees Item). count t) count_sum r root below after once k u n,
        only_if (λ (t : Trees Item). count t) count_sum from (subtree k all),
        ap (λ (b : Bool). count (if b then subtree k all else none)) is,
      );
      room = omega (arith, room, h.room, out_all (λ (t : Trees Item). count t) count_sum k all once u);
    }

    -- it is put among the attached ones
    pub among_sound : (place : Place) → IsSound all → IsAmong (without k all) place → ((id : ℤ) → names id (front (shifted k place all)) ≤ 1) → IsSound (shifted k place all)
    among_sound place h w distinct =
        let f : Found k all = found k top all u in
        let branch : subtree k all ≡ tree k f.value f.below none = ap (subtree k) f.is ∙ subtree_found f.path k f.value f.below f.after (alone_on all k f once) in
        let left_once : (j : ℕ) → uses j (tree r root (without k below) (without k after)) ≤ 1 =
        λ j. omega (arith, once j, out_all (λ (t : Trees Item). uses j t) (uses_sum j) k all once u, ap (λ x. uses j x) out_is) in
        let there : IsAmong (tree r root (without k below) (without k after)) place = subst (λ t. IsAmong t place) out_is w in
        let i : Within r root (without k below) (without k after) place = within_there r root (without k below) (without k after) left_once place there.0 there.1 in
        let o : Fronted r root (without k below) (without k after) place (subtree k all) = fronted r root (without k below) (without k after) place (subtree k all) i.away i.below_root in
        let now : shifted k place all ≡ tree r root o.inside (without k after) = ap (λ t. put place (subtree k all) t) out_is ∙ o.whole in
        record {
          root = subst IsRoot (sym now) (rooted r root below after h.root o.inside (without k after));
          distinct = distinct;
          aside = subst (λ t. EachOnce (behind_tree t)) (sym now) (each-without k after h.aside);
        }

  -- a node moves among the attached ones
  pub move_sound : (k : ℕ) (place : Place) → 1 ≤ uses k below → IsSound all → IsAmong (without k all) place → IsSound (shifted k place all)
  move_sound k place u h w =
      let there : 1 ≤ uses k all = omega (arith, u) in
      let n : r ≢ k = apart r k (omega (arith, once k, u)) in
      let same : (f : Trees Item → ℕ) → IsSum f → f (front (shifted k place all)) ≡ f (front all) =
      λ f m. omega (
        arith,
        shift_front r root below after k place once there n w.0 f m,
        ap (λ b. f (if b then subtree k all else none)) (present k (tree r root below none) (omega (arith, u))),
        ap (λ b. f (if b then subtree k all else none)) w.1,
      ) in
      among_sound k there n place h w (λ id. omega (arith, h.distinct id, same (names id) (names_sum id)))

  -- a detached node comes to the attached ones
  pub attach_sound : (k : ℕ) (place : Place) → 1 ≤ uses k after → IsSound all → IsAmong (without k all) place
      → ((id : ℤ) → names id (front all) + names id (subtree k all) ≤ 1) → IsSound (shifted k place all)
  attach_sound k place u h w distinct =
      let there : 1 ≤ uses k all = omega (arith, u) in
      let n : r ≢ k = apart r k (omega (arith, once k, u)) in
      let more : (f : Trees Item → ℕ) → IsSum f → f (front (shifted k place all)) ≤ f (front all) + f (subtree k all) =
      λ f m. omega (arith, shift_front r root below after k place once there n w.0 f m, ap (λ b. f (if b then subtree k all else none)) w.1) in
      among_sound k there n place h w (λ id. omega (arith, distinct id, more (names id) (names_sum id)))

  -- an attached node goes after the detached ones
  pub detach_sound : (k end : ℕ) → 1 ≤ uses k below → IsSound all → last_key None all ≡ Some end → IsSound (shifted k (After end) all)
  detach_sound k end u h e =
      let f : Found k below = found k top below u in
      let branch : Trees Item = tree k f.value f.below none in
      let alone : (j : ℕ) → uses j (tree r root below none) ≤ 1 = λ j. omega (arith, once j) in
      let now : shifted k (After end) all ≡ tree r root (plug f.path f.after) (joined after branch) = detach_now r root below after k once u end e in
      subst IsSound (sym now)
      (record {
        root = rooted r root below after h.root (plug f.path f.after) (joined after branch);
        distinct = λ id. omega (arith, h.distinct id, left_names r root below none k alone u id);
        aside = each-joined after branch h.aside ((λ id. omega (arith, h.distinct id, left_names r root below none k alone u id)), tt);
      })

  -- how many nodes are attached then
  pub move_number : (k : ℕ) (place : Place) → 1 ≤ uses k below → IsAmong (without k all) place → count (front (shifted k place all)) ≡ count (front all)
  move_number k place u w =
      let there : 1 ≤ uses k all = omega (arith, u) in
      let n : r ≢ k = apart r k (omega (arith, once k, u)) in
      omega (
        arith,
        shift_front r root below after k place once there n w.0 (λ (t : Trees Item). count t) count_sum,
        ap (λ b. count (if b then subtree k all else none)) (present k (tree r root below none) (omega (arith, u))),
        ap (λ b. count (if b then subtree k all else none)) w.1,
      )

  pub attach_number : (k : ℕ) (place : Place) → 1 ≤ uses k after → IsAmong (without k all) place → count (front (shifted k place all)) ≤ count (front all) + count (subtree k all)
  attach_number k place u w =
      let there : 1 ≤ uses k all = omega (arith, u) in
      let n : r ≢ k = apart r k (omega (arith, once k, u)) in
      omega (arith, shift_front r root below after k place once there n w.0 (λ (t : Trees Item). count t) count_sum, ap (λ b. count (if b then subtree k all else none)) w.1)

  pub detach_number : (k end : ℕ) → 1 ≤ uses k below → last_key None all ≡ Some end → count (front (shifted k (After end) all)) + count (subtree k all) ≡ count (front all)
  detach_number k end u e =
      omega (arith, ap (λ (t : Trees Item). count (front t)) (detach_now r root below after k once u end e), ap (λ (t : Trees Item). count t) (branch_is r root below after k once u), left_count r root below none k (λ j. omega (arith, once j)) u)

-- what a removal asks of the index, and what it makes of it
pub record Removing (t : Trees Item) (ids : Table) (k : ℕ) (from : Bool) : Type 0 where
  pub there : (id : ℤ) (key : ℕ) → named id key (only from false (subtree k t)) ≤ noted id key ids.pairs
  pub stored : (new : Table) → IsForgotten t ids new k from false → IsStored (without k t) new

pub removing : (t : Trees Item) (ids : Table) (k : ℕ) (from : Bool) → ((j : ℕ) → uses j t ≤ 1) → 1 ≤ uses k t → first_key t ≢ Some k → IsStored t ids → from ≡ has_key k (front t) → Removing t ids k from
removing none ids k from once u n h is = absurd (omega (arith, u))
removing (tree r root below after) ids k from once u n h is =
    let m : r ≢ k = λ e. n (ap (λ x. Some x) e) in
    record {
      there = out_there r root below after once k u m ids from h is;
      stored = λ new g. out_stored r root below after once k u m ids new from h is g.gone g.fewer g.room;
    }

-- an id that no attached node has isn't in the index
pub absent_stored : (t : Trees Item) (ids : Table) (id : ℤ) → IsStored t ids → names id (front t) ≡ 0 → key_for id ids.pairs ≡ None
absent_stored t ids id h z = unnoted id ids.pairs (λ key. omega (arith, h.finds id key, named-names id key (front t), z))

pub some_stored : (t : Trees Item) (ids : Table) → IsStored t ids → 1 ≤ length ids.pairs
some_stored t ids h = omega (arith, h.number, ap (λ x. count (front x)) h.sound.root.is)

pub fewer_stored : (t : Trees Item) (ids : Table) → IsStored t ids → length ids.pairs ≤ count t
fewer_stored t ids h = omega (arith, h.number, count-front t)

-- there is more room
pub regrown : (t : Trees Item) (ids mid : Table) → IsStored t ids → mid.pairs ≡ ids.pairs → ids.room ≤ mid.room → IsStored t mid
regrown t ids mid h same grows = record {
  sound = h.sound;
  finds = λ id key. ap (λ p. noted id key p) same ∙ h.finds id key;
  number = ap (λ (p : Pairs). length p) same ∙ h.number;
  room = omega (arith, h.room, grows);
}

-- what a new node asks of the index, and what it makes of it
pub insert_stored : (t : Trees Item) (ids new : Table) (place : Place) (key : ℕ) (item : Item) → ((j : ℕ) → uses j t ≤ 1) → IsAmong t place → IsStored t ids → names item.id (front t) ≡ 0
    → ((other : ℤ) → key_for other new.pairs ≡ (if int_eq item.id other then Some key else key_for other ids.pairs)) → length new.pairs ≡ length ids.pairs + 1 → count t + 1 ≤ new.room
    → IsStored (put place (tree key item none none) t) new
insert_stored none ids new place key item once w h absent finds long room = absurd (no_place none refl w.0)
  where
    no_place : (t : Trees Item) → t ≡ none → IsPlaceIn t place → ⊥
    no_place t e p = absurd (omega (arith, place_used t place p, ap (λ x. uses (key_of place) x) e))
insert_stored (tree r root below after) ids new place key item once w h absent finds long room =
    put_stored r root below after once place key item w ids new h absent (given ids.pairs new.pairs item.id key finds (absent_stored (tree r root below after) ids item.id h absent)) long room

pub new_used : (t : Trees Item) (place : Place) (key : ℕ) (item : Item) → ((j : ℕ) → uses j t ≤ 1) → IsPlaceIn t place → 1 ≤ uses key (put place (tree key item none none) t)
new_used t place key item once w = omega (arith, in_all (λ (x : Trees Item). uses key x) (uses_sum key) place t key item none once w, one_same key)

-- the root alone
pub root_stored : (t : Trees Item) (ids new : Table) (key root : ℕ) (item : Item) → t ≡ tree root item none none → Some key ≡ first_key t → item.id ≡ pos 0 → item.kind ≡ Group → item.key ≡ None
    → ids.pairs ≡ [] → ((other : ℤ) → key_for other new.pairs ≡ (if int_eq (pos 0) other then Some key else key_for other ids.pairs)) → length new.pairs ≡ length ids.pairs + 1 → 1 ≤ new.room → IsStored t new
root_stored t ids new key root item is first id kind apart empty finds long room =
    let same : root ≡ key = some_first root key (sym (ap first_key is) ∙ sym first) in
    subst (λ x. IsStored x new) (sym is)
    (record {
      sound = record {
        root = record { key = root; item = item; below = none; after = none; is = refl; id = id; kind = kind; apart = apart };
        distinct = λ x. one (int_eq item.id x);
        aside = tt;
      };
      finds = λ x j.
          let told : noted x j new.pairs ≡ noted x j ids.pairs + counted (int_eq (pos 0) x && (key == j)) =
          given ids.pairs new.pairs (pos 0) key finds (ap (λ p. key_for (pos 0) p) empty) x j in
          let old : noted x j ids.pairs ≡ 0 = ap (λ p. noted x j p) empty in
          let now : counted (int_eq (pos 0) x && (key == j)) ≡ counted (int_eq item.id x && (root == j)) = (λ i. counted (int_eq (sym id i) x && (sym same i == j))) in
          omega (arith, told, old, now);
      number = omega (arith, long, ap (λ (p : Pairs). length p) empty);
      room = omega (arith, room);
    })
  where
    one : (b : Bool) → counted b + 0 ≤ 1
    one true = omega arith
    one false = omega arith

-- the same, if the nodes are seen as others
pub removing_seen : (t seen : Trees Item) → t ≡ seen → (ids : Table) (k : ℕ) (from : Bool) → ((j : ℕ) → uses j t ≤ 1) → 1 ≤ uses k seen → first_key seen ≢ Some k → IsStored t ids → from ≡ has_key k (front seen) → Removing t ids k from
removing_seen t seen e ids k from once u n h is =
    removing t ids k from once (subst (λ x. 1 ≤ uses k x) (sym e) u) (λ f. n (sym (ap first_key e) ∙ f)) h (is ∙ ap (λ x. has_key k (front x)) (sym e))
