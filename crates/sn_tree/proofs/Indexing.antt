-- Ids that go out of an index, and into it.
use Rattle.std.proofs.Common.{◌≡◌, ◌≢◌, ℕ, ◌+◌, ◌<◌, ◌≤◌, ℤ, Bool, true, false, ◌&&◌, length, Option, Some, None, sym, refl, ap, ◌∙◌, subst, ⊎_elim, arith}
use Rattle.std.specs.Prelude.{if◌then◌else◌, ◌==◌}
use Rattle.std.specs.Ordering.{int_eq}
use Rattle.std.proofs.lemmas.Bool.{cases_Bool, cases_eq}
use Rattle.std.proofs.lemmas.Bool.Decides.{Decides-int_eq, eqb_tells}
use Rattle.sn_forest.specs.Trees.{Trees, none, tree, uses, count, first_key, joined, subtree, value_of}
use Rattle.sn_forest.specs.Walking.{from, behind_node}
use Rattle.sn_forest.proofs.Keys.{same_key, count-joined}
use Rattle.sn_forest.proofs.Walking.{none_first, some_first}
use Rattle.sn_tree.proofs.Stopping.{Stop, stop, next_used, top_from, top_first, top_used}
use Rattle.sn_ids.specs.Pairs.{Pairs, Table, key_for}
use Rattle.sn_tree.specs.declared.item.Item.{Item}
use Rattle.sn_tree.specs.Keyed.{counted, named, names, noted, is_key, left_at}
use Rattle.sn_tree.proofs.KeyedLaws.{named-names}

pub named-joined : (id : ℤ) (key : ℕ) (s t : Trees Item) → named id key (joined s t) ≡ named id key s + named id key t
named-joined id key none t = omega arith
named-joined id key (tree k item below after) t = omega (arith, named-joined id key after t)

is_some_key : (key : ℕ) (o : Option ℕ) → 1 ≤ counted (is_key key o) → o ≡ Some key
is_some_key key None h = absurd (omega (arith, h))
is_some_key key (Some k) h =
    ⊎_elim
    (λ (q : ((k == key) ≡ true) × (k ≡ key)). ap (λ x. Some x) q.1)
    (λ (q : ((k == key) ≡ false) × (k ≢ key)). absurd (omega (arith, h, ap counted q.0)))
    (eqb_tells k key)

-- a pair is noted under the key that is found
pub noted_is : (id : ℤ) (key : ℕ) (pairs : Pairs) → 1 ≤ noted id key pairs → key_for id pairs ≡ Some key
noted_is id key pairs h = is_some_key key (key_for id pairs) h

pub noted_found : (id : ℤ) (key : ℕ) (pairs : Pairs) → key_for id pairs ≡ Some key → noted id key pairs ≡ 1
noted_found id key pairs e = ap (λ o. counted (is_key key o)) e ∙ ap counted (same_key key)

-- one id is taken out
pub taken : (old new : Pairs) (id : ℤ) (key : ℕ) → ((other : ℤ) → key_for other new ≡ (if int_eq id other then None else key_for other old)) → 1 ≤ noted id key old
    → (i : ℤ) (k : ℕ) → noted i k new + counted (int_eq id i && (key == k)) ≡ noted i k old
taken old new id key f h i k =
    ⊎_elim
    (λ (e : int_eq id i ≡ true).
    let here : key_for i old ≡ Some key = ap (λ x. key_for x old) (sym ((Decides-int_eq id i).0 e)) ∙ noted_is id key old h in
    let gone : noted i k new ≡ 0 = ap (λ o. counted (is_key k o)) (f i ∙ ap (λ b. if b then None else key_for i old) e) in
    let was : noted i k old ≡ counted (key == k) = ap (λ o. counted (is_key k o)) here in
    let one : counted (int_eq id i && (key == k)) ≡ counted (key == k) = ap (λ b. counted (b && (key == k))) e in
    omega (arith, gone, was, one))
    (λ (e : int_eq id i ≡ false).
    let same : noted i k new ≡ noted i k old = ap (λ o. counted (is_key k o)) (f i ∙ ap (λ b. if b then None else key_for i old) e) in
    let no : counted (int_eq id i && (key == k)) ≡ 0 = ap (λ b. counted (b && (key == k))) e in
    omega (arith, same, no))
    (cases_Bool (int_eq id i))

-- the ids of a node and of those below it are taken out, as far as a walk has come
pub record IsForgetting (trees : Trees Item) (top : ℕ) (old now : Table) (next : Option ℕ) : Type 0 where
  pub counts : (id : ℤ) (key : ℕ) → noted id key now.pairs + named id key (subtree top trees) ≡ noted id key old.pairs + named id key (left_at next (subtree top trees))
  pub begins : first_key (left_at next (subtree top trees)) ≡ next
  pub node : (key : ℕ) → next ≡ Some key → 1 ≤ uses key (subtree top trees)
  pub len : length now.pairs + count (subtree top trees) ≡ length old.pairs + count (left_at next (subtree top trees))
  pub room : now.room ≡ old.room

module _ (trees : Trees Item) (top : ℕ) (once : (j : ℕ) → uses j trees ≤ 1) (u : 1 ≤ uses top trees) where
  pub forget_start : (old : Table) → IsForgetting trees top old old (Some top)
  forget_start old =
      let all : from top (subtree top trees) ≡ subtree top trees = top_from trees top once u in
      record {
        counts = λ id key. omega (arith, ap (λ t. named id key t) all);
        begins = ap first_key all ∙ top_first trees top once u;
        node = λ key e. subst (λ x. 1 ≤ uses x (subtree top trees)) (some_first top key e) (top_used trees top once u);
        len = omega (arith, ap (λ (t : Trees Item). count t) all);
        room = refl;
      }

  -- the walk stops at a node, whose id is taken out
  pub forget_next : (old now now' : Table) (key : ℕ) (next : Option ℕ) → IsForgetting trees top old now (Some key)
      → ((id : ℤ) (k : ℕ) → named id k (subtree top trees) ≤ noted id k old.pairs)
      → ((item : Item) → value_of key trees ≡ Some item → (other : ℤ) → key_for other now'.pairs ≡ (if int_eq item.id other then None else key_for other now.pairs))
      → ((item : Item) → value_of key trees ≡ Some item → 1 ≤ noted item.id key now.pairs → length now'.pairs + 1 ≡ length now.pairs)
      → now'.room ≡ now.room → next ≡ first_key (behind_node (from key (subtree top trees)))
      → IsForgetting trees top old now' next × (count (left_at next (subtree top trees)) < count (from key (subtree top trees)))
  forget_next old now now' key next h there finds long room e =
      let s : Stop trees top key = stop trees top key once u (h.node key refl) in
      let item : Item = s.value in
      let one : counted (int_eq item.id item.id && (key == key)) ≡ 1 = ap counted (both (int_eq item.id item.id) (key == key) ((Decides-int_eq item.id item.id).1 refl) (same_key key)) in
      let here : 1 ≤ noted item.id key now.pairs = omega (arith, h.counts item.id key, there item.id key, ap (λ t. named item.id key t) s.from_there, one) in
      let is : next ≡ first_key (joined s.below s.rest) = e ∙ ap (λ t. first_key (behind_node t)) s.from_there in
      let left : left_at next (subtree top trees) ≡ joined s.below s.rest = left_is s next is in
      let less : count (left_at next (subtree top trees)) < count (from key (subtree top trees)) = omega (arith, ap (λ (t : Trees Item). count t) left, ap (λ (t : Trees Item). count t) s.from_there, count-joined s.below s.rest) in (
        record {
          counts = λ id k. omega (arith, h.counts id k, taken now.pairs now'.pairs item.id key (finds item s.held) here id k, ap (λ t. named id k t) s.from_there, ap (λ t. named id k t) left, named-joined id k s.below s.rest);
          begins = ap first_key left ∙ sym is;
          node = λ n f. next_used trees top key s n (sym is ∙ f);
          len = omega (arith, h.len, long item s.held here, ap (λ (t : Trees Item). count t) s.from_there, ap (λ (t : Trees Item). count t) left, count-joined s.below s.rest);
          room = room ∙ h.room;
        },
        less,
      )
    where
      both : (a b : Bool) → a ≡ true → b ≡ true → (a && b) ≡ true
      both a b p q = (λ i. p i && q i)

      no_trees : (t : Trees Item) → None ≡ first_key t → none ≡ t
      no_trees none e = refl
      no_trees (tree k v b a) e = absurd (none_first k e)

      left_is : (s : Stop trees top key) (next : Option ℕ) → next ≡ first_key (joined s.below s.rest) → left_at next (subtree top trees) ≡ joined s.below s.rest
      left_is s None e = no_trees (joined s.below s.rest) e
      left_is s (Some n) e = s.on n (sym e)

-- one id is put in
pub given : (old new : Pairs) (id : ℤ) (key : ℕ) → ((other : ℤ) → key_for other new ≡ (if int_eq id other then Some key else key_for other old)) → key_for id old ≡ None
    → (i : ℤ) (k : ℕ) → noted i k new ≡ noted i k old + counted (int_eq id i && (key == k))
given old new id key f h i k =
    ⊎_elim
    (λ (e : int_eq id i ≡ true).
    let was : noted i k old ≡ 0 = ap (λ o. counted (is_key k o)) (ap (λ x. key_for x old) (sym ((Decides-int_eq id i).0 e)) ∙ h) in
    let now : noted i k new ≡ counted (key == k) = ap (λ o. counted (is_key k o)) (f i ∙ ap (λ b. if b then Some key else key_for i old) e) in
    let one : counted (int_eq id i && (key == k)) ≡ counted (key == k) = ap (λ b. counted (b && (key == k))) e in
    omega (arith, now, was, one))
    (λ (e : int_eq id i ≡ false).
    let same : noted i k new ≡ noted i k old = ap (λ o. counted (is_key k o)) (f i ∙ ap (λ b. if b then Some key else key_for i old) e) in
    let no : counted (int_eq id i && (key == k)) ≡ 0 = ap (λ b. counted (b && (key == k))) e in
    omega (arith, same, no))
    (cases_Bool (int_eq id i))

none_if : (o : Option ℕ) → ((k : ℕ) → counted (is_key k o) ≡ 0) → o ≡ None
none_if None h = refl
none_if (Some k) h = absurd (omega (arith, h k, ap counted (same_key k)))

-- an id that is noted under no key is not found
pub unnoted : (id : ℤ) (pairs : Pairs) → ((k : ℕ) → noted id k pairs ≡ 0) → key_for id pairs ≡ None
unnoted id pairs h = none_if (key_for id pairs) h

pub absent_noted : (id : ℤ) (key : ℕ) (pairs : Pairs) → key_for id pairs ≡ None → noted id key pairs ≡ 0
absent_noted id key pairs e = ap (λ o. counted (is_key key o)) e

-- two keys of one id are two nodes
two_keys : (a : Bool) (k j m : ℕ) → j ≢ m → counted (a && (k == j)) + counted (a && (k == m)) ≤ counted a
two_keys false k j m n = omega arith
two_keys true k j m n =
    ⊎_elim
    (λ (p : ((k == j) ≡ true) × (k ≡ j)).
    ⊎_elim
    (λ (q : ((k == m) ≡ true) × (k ≡ m)). absurd (n (sym p.1 ∙ q.1)))
    (λ (q : ((k == m) ≡ false) × (k ≢ m)). omega (arith, ap counted p.0, ap counted q.0))
    (eqb_tells k m))
    (λ (p : ((k == j) ≡ false) × (k ≢ j)).
    ⊎_elim
    (λ (q : ((k == m) ≡ true) × (k ≡ m)). omega (arith, ap counted p.0, ap counted q.0))
    (λ (q : ((k == m) ≡ false) × (k ≢ m)). omega (arith, ap counted p.0, ap counted q.0))
    (eqb_tells k m))
    (eqb_tells k j)

pub named-two : (id : ℤ) (j m : ℕ) → j ≢ m → (t : Trees Item) → named id j t + named id m t ≤ names id t
named-two id j m n none = omega arith
named-two id j m n (tree k item below after) = omega (arith, named-two id j m n below, named-two id j m n after, two_keys (int_eq item.id id) k j m n)

-- the ids of a node and of those below it are put in, as far as a walk has come
pub record IsNoting (trees : Trees Item) (top : ℕ) (old now : Table) (next : Option ℕ) : Type 0 where
  pub counts : (id : ℤ) (key : ℕ) → noted id key now.pairs + named id key (left_at next (subtree top trees)) ≡ noted id key old.pairs + named id key (subtree top trees)
  pub fewer : (id : ℤ) (key : ℕ) → named id key (left_at next (subtree top trees)) ≤ named id key (subtree top trees)
  pub begins : first_key (left_at next (subtree top trees)) ≡ next
  pub node : (key : ℕ) → next ≡ Some key → 1 ≤ uses key (subtree top trees)
  pub len : length now.pairs + count (left_at next (subtree top trees)) ≡ length old.pairs + count (subtree top trees)
  pub room : now.room ≡ old.room

no_trees_left : (t : Trees Item) → None ≡ first_key t → none ≡ t
no_trees_left none e = refl
no_trees_left (tree k v b a) e = absurd (none_first k e)

module _ (trees : Trees Item) (top : ℕ) (once : (j : ℕ) → uses j trees ≤ 1) (u : 1 ≤ uses top trees) where
  pub note_start : (old : Table) → IsNoting trees top old old (Some top)
  note_start old =
      let all : from top (subtree top trees) ≡ subtree top trees = top_from trees top once u in
      record {
        counts = λ id key. omega (arith, ap (λ t. named id key t) all);
        fewer = λ id key. omega (arith, ap (λ t. named id key t) all);
        begins = ap first_key all ∙ top_first trees top once u;
        node = λ key e. subst (λ x. 1 ≤ uses x (subtree top trees)) (some_first top key e) (top_used trees top once u);
        len = omega (arith, ap (λ (t : Trees Item). count t) all);
        room = refl;
      }

  module _ (old now : Table) (key : ℕ) (h : IsNoting trees top old now (Some key)) where
    abbrev s : Stop trees top key
    s = stop trees top key once u (h.node key refl)

    one_here : counted (int_eq s.value.id s.value.id && (key == key)) ≡ 1
    one_here = ap counted (λ i. (Decides-int_eq s.value.id s.value.id).1 refl i && same_key key i)

    -- the id of the node at which the walk stops isn't there yet
    pub not_yet : ((id : ℤ) → names id (subtree top trees) ≤ 1) → ((id : ℤ) → 1 ≤ names id (subtree top trees) → key_for id old.pairs ≡ None)
        → (item : Item) → value_of key trees ≡ Some item → key_for item.id now.pairs ≡ None
    not_yet distinct absent item held =
        let same : s.value ≡ item = some_item s.value item (sym s.held ∙ held) in
        let mine : 1 ≤ named s.value.id key (subtree top trees) = omega (arith, h.fewer s.value.id key, ap (λ t. named s.value.id key t) s.from_there, one_here) in
        let there : 1 ≤ names s.value.id (subtree top trees) = omega (arith, mine, named-names s.value.id key (subtree top trees)) in
        let free : key_for s.value.id old.pairs ≡ None = absent s.value.id there in
        let nothing : (k : ℕ) → noted s.value.id k now.pairs ≡ 0 = λ k. by_key k mine there free in
        subst (λ (x : Item). key_for x.id now.pairs ≡ None) same (unnoted s.value.id now.pairs nothing)
      where
        some_item : (a b : Item) → Some a ≡ Some b → a ≡ b
        some_item a b e = cc

        by_key : (k : ℕ) → 1 ≤ named s.value.id key (subtree top trees) → 1 ≤ names s.value.id (subtree top trees) → key_for s.value.id old.pairs ≡ None → noted s.value.id k now.pairs ≡ 0
        by_key k mine there free =
            ⊎_elim
            (λ (e : k ≡ key). subst (λ x. noted s.value.id x now.pairs ≡ 0) (sym e)
            (omega (arith, h.counts s.value.id key, absent_noted s.value.id key old.pairs free, distinct s.value.id, named-names s.value.id key (subtree top trees), ap (λ t. named s.value.id key t) s.from_there, one_here)))
            (λ n. omega (arith, h.counts s.value.id k, absent_noted s.value.id k old.pairs free, distinct s.value.id, named-two s.value.id k key n (subtree top trees), mine))
            (cases_eq k key)

    pub room_for_one : length old.pairs + count (subtree top trees) ≤ old.room → length now.pairs < now.room
    room_for_one r = omega (arith, r, h.len, h.room, ap (λ (t : Trees Item). count t) s.from_there)

    pub note_next : (now' : Table) (next : Option ℕ)
        → ((item : Item) → value_of key trees ≡ Some item → (other : ℤ) → key_for other now'.pairs ≡ (if int_eq item.id other then Some key else key_for other now.pairs))
        → ((item : Item) → value_of key trees ≡ Some item → length now'.pairs ≡ length now.pairs + 1)
        → ((item : Item) → value_of key trees ≡ Some item → key_for item.id now.pairs ≡ None)
        → now'.room ≡ now.room → next ≡ first_key (behind_node (from key (subtree top trees)))
        → IsNoting trees top old now' next × (count (left_at next (subtree top trees)) < count (from key (subtree top trees)))
    note_next now' next finds long absent room e =
        let is : next ≡ first_key (joined s.below s.rest) = e ∙ ap (λ t. first_key (behind_node t)) s.from_there in
        let left : left_at next (subtree top trees) ≡ joined s.below s.rest = left_is next is in
        let less : count (left_at next (subtree top trees)) < count (from key (subtree top trees)) = omega (arith, ap (λ (t : Trees Item). count t) left, ap (λ (t : Trees Item). count t) s.from_there, count-joined s.below s.rest) in (
          record {
            counts = λ id k. omega (arith, h.counts id k, given now.pairs now'.pairs s.value.id key (finds s.value s.held) (absent s.value s.held) id k, ap (λ t. named id k t) s.from_there, ap (λ t. named id k t) left, named-joined id k s.below s.rest);
            fewer = λ id k. omega (arith, h.fewer id k, ap (λ t. named id k t) s.from_there, ap (λ t. named id k t) left, named-joined id k s.below s.rest);
            begins = ap first_key left ∙ sym is;
            node = λ n f. next_used trees top key s n (sym is ∙ f);
            len = omega (arith, h.len, long s.value s.held, ap (λ (t : Trees Item). count t) s.from_there, ap (λ (t : Trees Item). count t) left, count-joined s.below s.rest);
            room = room ∙ h.room;
          },
          less,
        )
      where
        left_is : (next : Option ℕ) → next ≡ first_key (joined s.below s.rest) → left_at next (subtree top trees) ≡ joined s.below s.rest
        left_is None e = no_trees_left (joined s.below s.rest) e
        left_is (Some n) e = s.on n (sym e)
