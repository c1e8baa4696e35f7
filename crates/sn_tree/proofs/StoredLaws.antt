-- What keeps the index true of the nodes.
use Rattle.std.proofs.Common.{◌≡◌, ◌≢◌, ℕ, ◌≤◌, ℤ, Bool, true, false, ◌&&◌, Some, None, sym, refl, ap, ◌∙◌, subst, ⊎_elim, arith}
use Rattle.std.specs.Prelude.{if◌then◌else◌, ◌==◌, nat_lt}
use Rattle.std.specs.Ordering.{int_eq}
use Rattle.std.proofs.lemmas.Bool.{cases_Bool}
use Rattle.std.proofs.lemmas.Bool.Decides.{Decides-int_eq}
use Rattle.sn_forest.specs.Trees.{Trees, none, tree, one_at, uses, has_key, first_key, last_key, joined, without, value_of}
use Rattle.sn_forest.specs.Walking.{behind_tree}
use Rattle.sn_forest.proofs.Keys.{some_or_none, same_key, other_key, one_same, missing, present}
use Rattle.sn_forest.proofs.Walking.{none_first, some_first}
use Rattle.sn_forest.proofs.Paths.{top, plug, path_uses, Found, found}
use Rattle.sn_forest.proofs.Passing.{value_found}
use Rattle.sn_forest.proofs.Holes.{alone_on}
use Rattle.sn_ids.specs.Pairs.{Table, key_for}
use Rattle.sn_tree.specs.Trees.{holds}
use Rattle.sn_tree.specs.declared.item.Item.{Item}
use Rattle.sn_tree.specs.Keyed.{labels, front, counted, named, names, is_key}
use Rattle.sn_tree.specs.Stored.{below_root, EachOnce, IsRoot, IsStored}
use Rattle.sn_tree.proofs.Away.{last_used}
use Rattle.sn_tree.proofs.KeyedPaths.{not_held, counted_none}
use Rattle.sn_tree.proofs.KeyedLaws.{left_is, named-in, named-uses}
use Rattle.sn_tree.proofs.Indexing.{noted_found, absent_noted}

-- an id that no node has under any key is no node's
names-zero : (id : ℤ) (t : Trees Item) → ((k : ℕ) → named id k t ≡ 0) → names id t ≡ 0
names-zero id none h = refl
names-zero id (tree key item below after) h =
    let here : counted (int_eq item.id id) ≡ 0 = with_own_key (int_eq item.id id) (key == key) (same_key key) (omega (arith, h key)) in
    omega (arith, here, names-zero id below (λ k. omega (arith, h k)), names-zero id after (λ k. omega (arith, h k)))
  where
    with_own_key : (a b : Bool) → b ≡ true → counted (a && b) ≡ 0 → counted a ≡ 0
    with_own_key true b e z = ap counted (sym e) ∙ z
    with_own_key false b e z = refl

-- what is found is an attached node
pub found_stored : (trees : Trees Item) (ids : Table) (id : ℤ) (key : ℕ) → IsStored trees ids → Some key ≡ key_for id ids.pairs → 1 ≤ named id key (front trees)
found_stored trees ids id key h e = omega (arith, h.finds id key, noted_found id key ids.pairs (sym e))

pub missing_stored : (trees : Trees Item) (ids : Table) (id : ℤ) → IsStored trees ids → None ≡ key_for id ids.pairs → holds id (labels (front trees)) ≡ false
missing_stored trees ids id h e = not_held id (front trees) (names-zero id (front trees) (λ k. sym (h.finds id k) ∙ absent_noted id k ids.pairs (sym e)))

pub each-joined : (s t : Trees Item) → EachOnce s → EachOnce t → EachOnce (joined s t)
each-joined none t h i = i
each-joined (tree key item below after) t h i = (h.0, each-joined after t h.1 i)

abbrev item_in : Trees Item → Item → Item
item_in none d = d
item_in (tree k i b a) d = i

pub same_item : {A : Type 0} (f : Item → A) (r : ℕ) (root : Item) (below after : Trees Item) (h : IsRoot (tree r root below after)) → f root ≡ f h.item
same_item f r root below after h = ap (λ t. f (item_in t root)) h.is

-- the root stays what it is, whatever lies below it and after it
pub rooted : (r : ℕ) (root : Item) (below after : Trees Item) → IsRoot (tree r root below after) → (b a : Trees Item) → IsRoot (tree r root b a)
rooted r root below after h b a = record {
  key = r;
  item = root;
  below = b;
  after = a;
  is = refl;
  id = same_item (λ (x : Item). x.id) r root below after h ∙ h.id;
  kind = same_item (λ (x : Item). x.kind) r root below after h ∙ h.kind;
  apart = same_item (λ (x : Item). x.key) r root below after h ∙ h.apart;
}

-- the last tree stays when a node below the root goes
pub end_stored : (trees : Trees Item) (k end : ℕ) → ((j : ℕ) → uses j trees ≤ 1) → 1 ≤ uses k (below_root trees) → last_key None trees ≡ Some end → 1 ≤ uses end (without k trees)
end_stored none k end once u e = absurd (omega (arith, u))
end_stored (tree r root below after) k end once u e =
    subst (λ t. 1 ≤ uses end t) (sym (left_is r root below after k once u))
    (last_used end (tree r root (plug (found k top below u).path (found k top below u).after) after) None (omega arith) e)

-- whether a node is an attached one is told by the index
module _ (r : ℕ) (root : Item) (below after : Trees Item) (once : (j : ℕ) → uses j (tree r root below after) ≤ 1) where
  pub value_front : (key : ℕ) → 1 ≤ uses key (tree r root below none) → value_of key (tree r root below after) ≡ value_of key (tree r root below none)
  value_front key u =
      ⊎_elim
      (λ (e : (r == key) ≡ true).
      ap (λ t. if t then Some root else if has_key key below then value_of key below else value_of key after) e
      ∙ sym (ap (λ t. if t then Some root else if has_key key below then value_of key below else None) e))
      (λ (e : (r == key) ≡ false).
      let there : has_key key below ≡ true = present key below (omega (arith, u, ap {B = ℕ} (λ t. if t then 1 else 0) e)) in
      (λ i. if e i then Some root else if there i then value_of key below else value_of key after)
      ∙ sym (λ i. if e i then Some root else if there i then value_of key below else None))
      (cases_Bool (r == key))

  named_value : (key : ℕ) (item : Item) → 1 ≤ uses key (tree r root below none) → value_of key (tree r root below after) ≡ Some item → 1 ≤ named item.id key (tree r root below none)
  named_value key item u held =
      let f : Found key (tree r root below none) = found key top (tree r root below none) u in
      let free : path_uses key f.path ≡ 0 = alone_on (tree r root below none) key f (λ j. omega (arith, once j)) in
      let told : value_of key (tree r root below none) ≡ Some f.value = ap (value_of key) f.is ∙ value_found f.path key f.value f.below f.after free in
      let same : f.value ≡ item = same_value f.value item (sym told ∙ (sym (value_front key u) ∙ held)) in
      let here : counted (int_eq f.value.id item.id && (key == key)) ≡ 1 = ap counted (λ i. (Decides-int_eq f.value.id item.id).1 (ap (λ (x : Item). x.id) same) i && same_key key i) in
      omega (arith, ap (λ t. named item.id key t) f.is, named-in item.id key f.path (tree key f.value f.below f.after), here)
    where
      same_value : (a b : Item) → Some a ≡ Some b → a ≡ b
      same_value a b e = cc

  attached_by : (ids : Table) (key : ℕ) (item : Item) → IsStored (tree r root below after) ids → value_of key (tree r root below after) ≡ Some item → is_key key (key_for item.id ids.pairs) ≡ has_key key (tree r root below none)
  attached_by ids key item h held =
      ⊎_elim
      (λ (u : 1 ≤ uses key (tree r root below none)).
      counted_true (is_key key (key_for item.id ids.pairs)) (omega (arith, h.finds item.id key, named_value key item u held)) ∙ sym (present key (tree r root below none) u))
      (λ (u : uses key (tree r root below none) ≤ 0).
      counted_none (is_key key (key_for item.id ids.pairs)) (omega (arith, h.finds item.id key, named-uses item.id key (tree r root below none), u)) ∙ sym (missing key (tree r root below none) (omega (arith, u))))
      (some_or_none (uses key (tree r root below none)))
    where
      counted_true : (b : Bool) → 1 ≤ counted b → b ≡ true
      counted_true true e = refl
      counted_true false e = absurd (omega (arith, e))

pub attached_is : (trees : Trees Item) (ids : Table) (key : ℕ) (item : Item) → ((j : ℕ) → uses j trees ≤ 1) → IsStored trees ids → value_of key trees ≡ Some item → is_key key (key_for item.id ids.pairs) ≡ has_key key (front trees)
attached_is none ids key item once h held = absurd (let c : None ≡ Some item = held in cc)
attached_is (tree r root below after) ids key item once h held = attached_by r root below after once ids key item h held

-- if no node is detached, each is attached
pub nothing_first : (trees : Trees Item) → None ≡ first_key trees → trees ≡ none
nothing_first none e = refl
nothing_first (tree key item below after) e = absurd (none_first key e)

pub whole_front : (trees : Trees Item) (key : ℕ) → behind_tree trees ≡ none → 1 ≤ uses key trees → true ≡ has_key key (front trees)
whole_front none key e u = absurd (omega (arith, u))
whole_front (tree r root below after) key e u =
    let gone : uses key after ≡ 0 = ap (uses key) e in
    sym (present key (tree r root below none) (omega (arith, u, gone)))

-- a node that is used holds something
pub holds_value : (trees : Trees Item) (key : ℕ) → ((j : ℕ) → uses j trees ≤ 1) → 1 ≤ uses key trees → None ≡ value_of key trees → ⊥
holds_value trees key once u e =
    let f : Found key trees = found key top trees u in
    let told : value_of key trees ≡ Some f.value = ap (value_of key) f.is ∙ value_found f.path key f.value f.below f.after (alone_on trees key f once) in
    let c : None ≡ Some f.value = e ∙ told in cc

-- below the root
pub root_not_below : (trees : Trees Item) (key root : ℕ) → ((j : ℕ) → uses j trees ≤ 1) → Some root ≡ first_key trees → key ≡ root → false ≡ has_key key (below_root trees)
root_not_below none key root once f e = refl
root_not_below (tree r item below after) key root once f e =
    let same : r ≡ key = some_first r root (sym f) ∙ sym e in
    sym (missing key below (omega (arith, once key, subst (λ x. one_at x key ≡ 1) (sym same) (one_same key))))

pub below_is_front : (trees : Trees Item) (key root : ℕ) → Some root ≡ first_key trees → key ≢ root → has_key key (front trees) ≡ has_key key (below_root trees)
below_is_front none key root f n = refl
below_is_front (tree r item below after) key root f n =
    let away : one_at r key ≡ 0 = ap {B = ℕ} (λ t. if t then 1 else 0) (other_key r key (λ e. n (sym e ∙ some_first r root (sym f)))) in
    let same : uses key (tree r item below none) ≡ uses key below = omega (arith, away) in
    ap (λ x. nat_lt 0 x) same

-- there is a last tree
last_some : (k : ℕ) (t : Trees Item) → None ≡ last_key (Some k) t → ⊥
last_some k none e = none_first k e
last_some k (tree key item below after) e = last_some key after e

pub no_end : (t : Trees Item) (root : ℕ) → Some root ≡ first_key t → None ≡ last_key None t → ⊥
no_end none root f e = none_first root (sym f)
no_end (tree k item below after) root f e = last_some k after e
