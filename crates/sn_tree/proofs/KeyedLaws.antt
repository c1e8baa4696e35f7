-- What moves by keys make of the attached and the detached nodes.
use Rattle.std.proofs.Common.{◌≡◌, ◌≢◌, ℕ, ◌+◌, ◌≤◌, ℤ, Bool, true, false, ◌&&◌, Option, Some, None, sym, refl, ap, ◌∙◌, subst, ⊎_elim, arith}
use Rattle.std.specs.Prelude.{if◌then◌else◌, ◌==◌}
use Rattle.std.specs.Ordering.{int_eq}
use Rattle.std.proofs.lemmas.Bool.{cases_Bool}
use Rattle.std.proofs.lemmas.Bool.Decides.{eqb_tells}
use Rattle.sn_forest.specs.Trees.{Trees, none, tree, one_at, uses, count, last_key, joined as joined_trees, subtree as subtree_of, without as without_key, put_after}
use Rattle.sn_forest.specs.Places.{key_of, put as put_at, shifted}
use Rattle.sn_forest.specs.declared.place.Place.{Place}
use Rattle.sn_forest.specs.declared.place.Place.TheVariants.{First, Last, Before as PlaceBefore, After as PlaceAfter}
use Rattle.sn_forest.proofs.Keys.{some_or_none, one_same, same_key, other_key, joined-none, present}
use Rattle.sn_forest.proofs.Paths.{Path, top, under, beside, plug, path_uses, uses-plug, count-plug, Found, found}
use Rattle.sn_forest.proofs.Passing.{without_at, first_at, last_at, before_at, after_at, subtree_found}
use Rattle.sn_forest.proofs.Climbing.{over, plug-over}
use Rattle.sn_tree.specs.declared.item.Item.{Item}
use Rattle.sn_tree.specs.declared.node.AddAction.{AddAction}
use Rattle.sn_tree.specs.declared.node.AddAction.TheVariants.{Head, Tail, Before, After}
use Rattle.sn_tree.specs.Trees.{node, joined, subtree, without, put}
use Rattle.sn_tree.specs.Arranged.{Arranged}
use Rattle.sn_tree.specs.Steps.{detaching, moving}
use Rattle.sn_tree.specs.Stored.{IsBelowRoot}
use Rattle.sn_tree.specs.Keyed.{label_by, labels, front, sides, counted, named, names, placed}
use Rattle.sn_tree.proofs.Away.{without_absent, first_absent, last_absent, before_absent, after_absent, last_used}
use Rattle.sn_tree.proofs.KeyedPaths.{plug_labels, labels-plug, path_names, names-plug, id_without, id_subtree, id_put, counted_one}

pub labels-joined : (s t : Trees Item) → labels (joined_trees s t) ≡ joined (labels s) (labels t)
labels-joined none t = refl
labels-joined (tree key item below after) t = ap (node (label_by item) (labels below)) (labels-joined after t)

-- new nodes put at a spot, by the path of its target
pub put_labels : (action : AddAction) (id : ℤ) (p : Path Item) (key : ℕ) (item : Item) (below after new : Trees Item) → int_eq item.id id ≡ true → path_names id p ≡ 0 → path_uses key p ≡ 0
    → put action id (labels new) (labels (plug p (tree key item below after))) ≡ labels (put_at (placed action key) new (plug p (tree key item below after)))
put_labels Head id p key item below after new is z u =
    id_put id p key item below after is z Head (labels new)
    ∙ (ap (λ x. plug_labels p (node (label_by item) x (labels after))) (sym (labels-joined new below))
    ∙ sym (ap labels (first_at p key item below after new u) ∙ labels-plug p (tree key item (joined_trees new below) after)))
put_labels Tail id p key item below after new is z u =
    id_put id p key item below after is z Tail (labels new)
    ∙ (ap (λ x. plug_labels p (node (label_by item) x (labels after))) (sym (labels-joined below new))
    ∙ sym (ap labels (last_at p key item below after new u) ∙ labels-plug p (tree key item (joined_trees below new) after)))
put_labels Before id p key item below after new is z u =
    id_put id p key item below after is z Before (labels new)
    ∙ (ap (plug_labels p) (sym (labels-joined new (tree key item below after)))
    ∙ sym (ap labels (before_at p key item below after new u) ∙ labels-plug p (joined_trees new (tree key item below after))))
put_labels After id p key item below after new is z u =
    id_put id p key item below after is z After (labels new)
    ∙ (ap (λ x. plug_labels p (node (label_by item) (labels below) x)) (sym (labels-joined new after))
    ∙ sym (ap labels (after_at p key item below after new u) ∙ labels-plug p (tree key item below (joined_trees new after))))

pub both_true : (a b : Bool) → 1 ≤ counted (a && b) → (a ≡ true) × (b ≡ true)
both_true true true h = (refl, refl)
both_true true false h = absurd (omega (arith, h))
both_true false b h = absurd (omega (arith, h))

-- the node with an id under a key, and the way to it
pub record Named (id : ℤ) (key : ℕ) (trees : Trees Item) : Type 0 where
  pub path : Path Item
  pub item : Item
  pub below : Trees Item
  pub after : Trees Item
  pub is : trees ≡ plug path (tree key item below after)
  pub same : int_eq item.id id ≡ true

pub found_named : (id : ℤ) (key : ℕ) (p : Path Item) (t : Trees Item) → 1 ≤ named id key t → Named id key (plug p t)
found_named id key p none h = absurd (omega (arith, h))
found_named id key p (tree k item below after) h =
    ⊎_elim
    (λ (here : 1 ≤ counted (int_eq item.id id && (k == key))).
    let b = both_true (int_eq item.id id) (k == key) here in
    record { path = p; item = item; below = below; after = after; is = ap (λ x. plug p (tree x item below after)) (is_key_of k b.1); same = b.0 })
    (λ (n : counted (int_eq item.id id && (k == key)) ≤ 0).
    ⊎_elim
    (λ (b : 1 ≤ named id key below). found_named id key (under k item after p) below b)
    (λ (b : named id key below ≤ 0). found_named id key (beside k item below p) after (omega (arith, h, n, b)))
    (some_or_none (named id key below)))
    (some_or_none (counted (int_eq item.id id && (k == key))))
  where
    is_key_of : (k : ℕ) → (k == key) ≡ true → k ≡ key
    is_key_of k e = ⊎_elim (λ (q : ((k == key) ≡ true) × (k ≡ key)). q.1) (λ (q : ((k == key) ≡ false) × (k ≢ key)). absurd (let c : true ≡ false = sym e ∙ q.0 in cc)) (eqb_tells k key)

false_last : (a b : Bool) → b ≡ false → counted (a && b) ≡ 0
false_last true b e = ap counted e
false_last false b e = refl

last_counts : (a b : Bool) → counted (a && b) ≤ counted b
last_counts true b = omega arith
last_counts false true = omega arith
last_counts false false = omega arith

-- a node with an id under a key has this key, and this id
pub named-uses : (id : ℤ) (key : ℕ) (t : Trees Item) → named id key t ≤ uses key t
named-uses id key none = omega arith
named-uses id key (tree k item below after) = omega (arith, named-uses id key below, named-uses id key after, last_counts (int_eq item.id id) (k == key))

pub named-names : (id : ℤ) (key : ℕ) (t : Trees Item) → named id key t ≤ names id t
named-names id key none = omega arith
named-names id key (tree k item below after) = omega (arith, named-names id key below, named-names id key after, one_less (int_eq item.id id) (k == key))
  where
    one_less : (a b : Bool) → counted (a && b) ≤ counted a
    one_less true true = omega arith
    one_less true false = omega arith
    one_less false b = omega arith

-- trees put after the last one
pub put_behind : (m : ℕ) (new t : Trees Item) (before : Option ℕ) → ((j : ℕ) → uses j t ≤ 1) → 1 ≤ uses m t → last_key before t ≡ Some m → put_after m new t ≡ joined_trees t new
put_behind m new none before once u e = absurd (omega (arith, u))
put_behind m new (tree key item below none) before once u e =
    let here : key ≡ m = some_same key m e in
    ap (λ b. if b then tree key item below (joined_trees new none) else tree key item (put_after m new below) none) (subst (λ x. (key == x) ≡ true) here (same_key key))
    ∙ ap (tree key item below) (joined-none new)
  where
    some_same : (a b : ℕ) → Some a ≡ Some b → a ≡ b
    some_same a b e = cc
put_behind m new (tree key item below (tree k i b a)) before once u e =
    let later : 1 ≤ uses m (tree k i b a) = last_used m (tree k i b a) (Some key) (omega arith) e in
    let other : key ≢ m = λ s. absurd (omega (arith, once m, later, subst (λ x. one_at x m ≡ 1) (sym s) (one_same m))) in
    let same : put_after m new below ≡ below = after_absent m new below (omega (arith, once m, later)) in
    let rest : put_after m new (tree k i b a) ≡ joined_trees (tree k i b a) new = put_behind m new (tree k i b a) (Some key) (λ j. omega (arith, once j)) later e in
    ap (λ t. if t then tree key item below (joined_trees new (tree k i b a)) else tree key item (put_after m new below) (put_after m new (tree k i b a))) (other_key key m other)
    ∙ (λ x. tree key item (same x) (rest x))

pub path_names-over : (id : ℤ) (p q : Path Item) → path_names id (over p q) ≡ path_names id p + path_names id q
path_names-over id top q = omega arith
path_names-over id (under key item after p) q = omega (arith, path_names-over id p q)
path_names-over id (beside key item below p) q = omega (arith, path_names-over id p q)

abbrev pub path_named : ℤ → ℕ → Path Item → ℕ
path_named id key top = 0
path_named id key (under k item after p) = counted (int_eq item.id id && (k == key)) + (named id key after + path_named id key p)
path_named id key (beside k item below p) = counted (int_eq item.id id && (k == key)) + (named id key below + path_named id key p)

pub named-in : (id : ℤ) (key : ℕ) (p : Path Item) (t : Trees Item) → named id key (plug p t) ≡ path_named id key p + named id key t
named-in id key top t = omega arith
named-in id key (under k item after p) t = omega (arith, named-in id key p (tree k item t after))
named-in id key (beside k item below p) t = omega (arith, named-in id key p (tree k item below t))

pub path-named : (id : ℤ) (key : ℕ) (p : Path Item) → path_named id key p ≤ path_uses key p
path-named id key top = omega arith
path-named id key (under k item after p) = omega (arith, path-named id key p, named-uses id key after, last_counts (int_eq item.id id) (k == key))
path-named id key (beside k item below p) = omega (arith, path-named id key p, named-uses id key below, last_counts (int_eq item.id id) (k == key))

-- a node below the root, and the nodes without it
module _ (r : ℕ) (root : Item) (below after : Trees Item) (k : ℕ) (once : (j : ℕ) → uses j (tree r root below after) ≤ 1) (u : 1 ≤ uses k below) where
  abbrev all : Trees Item
  all = tree r root below after

  abbrev f : Found k below
  f = found k top below u

  abbrev branch : Trees Item
  branch = tree k f.value f.below none

  abbrev left : Trees Item
  left = tree r root (plug f.path f.after) after

  -- the way to it in the root's tree
  abbrev way : Path Item
  way = over f.path (under r root none top)

  not_root : r ≢ k
  not_root e = absurd (omega (arith, once k, u, subst (λ x. one_at x k ≡ 1) (sym e) (one_same k)))

  free : path_uses k f.path + (uses k f.below + uses k f.after) ≡ 0
  free = omega (arith, once k, ap (λ x. uses k x) f.is, uses-plug k f.path (tree k f.value f.below f.after), one_same k)

  free_after : uses k after ≡ 0
  free_after = omega (arith, once k, u)

  whole_is : tree r root below none ≡ plug way (tree k f.value f.below f.after)
  whole_is = ap (λ x. tree r root x none) f.is ∙ sym (plug-over f.path (under r root none top) (tree k f.value f.below f.after))

  pub left_is : without_key k all ≡ left
  left_is =
      let b : without_key k below ≡ plug f.path f.after = ap (without_key k) f.is ∙ without_at f.path k f.value f.below f.after (omega (arith, free)) (omega (arith, free)) in
      let a : without_key k after ≡ after = without_absent k after free_after in
      ap (λ t. if t then without_key k after else tree r root (without_key k below) (without_key k after)) (other_key r k not_root) ∙ (λ i. tree r root (b i) (a i))

  pub branch_is : subtree_of k all ≡ branch
  branch_is =
      (λ i. if other_key r k not_root i then tree r root below none else if present k below u i then subtree_of k below else subtree_of k after)
      ∙ (ap (subtree_of k) f.is ∙ subtree_found f.path k f.value f.below f.after (omega (arith, free)))

  pub left_once : (j : ℕ) → uses j left + uses j branch ≡ uses j all
  left_once j = omega (arith, ap (λ x. uses j x) f.is, uses-plug j f.path (tree k f.value f.below f.after), uses-plug j f.path f.after)

  pub left_count : count left + count branch ≡ count all
  left_count = omega (arith, ap (λ (x : Trees Item). count x) f.is, count-plug f.path (tree k f.value f.below f.after), count-plug f.path f.after)

  pub left_names : (x : ℤ) → names x left + names x branch ≡ names x all
  left_names x = omega (arith, ap (λ t. names x t) f.is, names-plug x f.path (tree k f.value f.below f.after), names-plug x f.path f.after)

  -- after the last of the detached nodes
  pub detach_now : (end : ℕ) → last_key None all ≡ Some end → shifted k (PlaceAfter end) all ≡ tree r root (plug f.path f.after) (joined_trees after branch)
  detach_now end e =
      let behind : put_after end branch left ≡ joined_trees left branch = put_behind end branch left None (λ j. omega (arith, once j, left_once j)) (last_used end left None (omega arith) e) e in
      (λ i. put_after end (branch_is i) (left_is i)) ∙ behind

  -- by its id
  module _ (id : ℤ) (distinct : names id (tree r root below none) ≤ 1) (h : 1 ≤ named id k (tree r root below none)) where
    pub item_is : int_eq f.value.id id ≡ true
    item_is =
        let root_other : counted (int_eq root.id id && (r == k)) ≡ 0 = false_last (int_eq root.id id) (r == k) (other_key r k not_root) in
        let there : named id k (tree r root below none) ≤ counted (int_eq f.value.id id && (k == k)) + (path_uses k f.path + (uses k f.below + uses k f.after)) =
        omega (arith, ap (λ t. named id k t) f.is, named-in id k f.path (tree k f.value f.below f.after), path-named id k f.path, named-uses id k f.below, named-uses id k f.after, root_other) in
        (both_true (int_eq f.value.id id) (k == k) (omega (arith, h, there, free))).0

    free_names : path_names id way ≡ 0
    free_names = omega (arith, distinct, ap (λ x. names id x) f.is, names-plug id f.path (tree k f.value f.below f.after), counted_one (int_eq f.value.id id) item_is, path_names-over id f.path (under r root none top))

    pub attached_without : without id (labels (tree r root below none)) ≡ labels (tree r root (plug f.path f.after) none)
    attached_without =
        ap (λ x. without id (labels x)) whole_is
        ∙ (id_without id way k f.value f.below f.after item_is free_names ∙ ap labels (plug-over f.path (under r root none top) f.after))

    pub attached_branch : subtree id (labels (tree r root below none)) ≡ labels branch
    attached_branch = ap (λ x. subtree id (labels x)) whole_is ∙ id_subtree id way k f.value f.below f.after item_is free_names

    -- it is put after the last of the detached nodes
    pub detach_sides : (end : ℕ) → last_key None all ≡ Some end → sides (shifted k (PlaceAfter end) all) ≡ detaching id (sides all)
    detach_sides end e =
        let far : labels (joined_trees after branch) ≡ joined (labels after) (subtree id (labels (tree r root below none))) = labels-joined after branch ∙ ap (joined (labels after)) (sym attached_branch) in
        ap sides (detach_now end e) ∙ (λ i. let s : Arranged = record { attached = sym attached_without i; detached = far i } in s)

-- what is put by the key of an attached node stands among the attached ones, and the detached ones stay
pub record Fronted (r : ℕ) (root : Item) (below after : Trees Item) (place : Place) (new : Trees Item) : Type 0 where
  pub inside : Trees Item
  pub whole : put_at place new (tree r root below after) ≡ tree r root inside after
  pub alone : put_at place new (tree r root below none) ≡ tree r root inside none

pub fronted : (r : ℕ) (root : Item) (below after : Trees Item) (place : Place) (new : Trees Item) → uses (key_of place) after ≡ 0 → IsBelowRoot place r → Fronted r root below after place new
fronted r root below after (First key) new z w =
    let out : put_at (First key) new after ≡ after = first_absent key new after z in
    ⊎_elim
    (λ (e : (r == key) ≡ true). let now = λ (x : Trees Item). ap (λ t. if t then tree r root (joined_trees new below) x else tree r root (put_at (First key) new below) (put_at (First key) new x)) e in
    record { inside = joined_trees new below; whole = now after; alone = now none })
    (λ (e : (r == key) ≡ false). let now = λ (x : Trees Item). ap (λ t. if t then tree r root (joined_trees new below) x else tree r root (put_at (First key) new below) (put_at (First key) new x)) e in
    record { inside = put_at (First key) new below; whole = now after ∙ ap (tree r root (put_at (First key) new below)) out; alone = now none })
    (cases_Bool (r == key))
fronted r root below after (Last key) new z w =
    let out : put_at (Last key) new after ≡ after = last_absent key new after z in
    ⊎_elim
    (λ (e : (r == key) ≡ true). let now = λ (x : Trees Item). ap (λ t. if t then tree r root (joined_trees below new) x else tree r root (put_at (Last key) new below) (put_at (Last key) new x)) e in
    record { inside = joined_trees below new; whole = now after; alone = now none })
    (λ (e : (r == key) ≡ false). let now = λ (x : Trees Item). ap (λ t. if t then tree r root (joined_trees below new) x else tree r root (put_at (Last key) new below) (put_at (Last key) new x)) e in
    record { inside = put_at (Last key) new below; whole = now after ∙ ap (tree r root (put_at (Last key) new below)) out; alone = now none })
    (cases_Bool (r == key))
fronted r root below after (PlaceBefore key) new z w =
    let out : put_at (PlaceBefore key) new after ≡ after = before_absent key new after z in
    let now = λ (x : Trees Item). ap (λ t. if t then joined_trees new (tree r root below x) else tree r root (put_at (PlaceBefore key) new below) (put_at (PlaceBefore key) new x)) (other_key r key w) in
    record { inside = put_at (PlaceBefore key) new below; whole = now after ∙ ap (tree r root (put_at (PlaceBefore key) new below)) out; alone = now none }
fronted r root below after (PlaceAfter key) new z w =
    let out : put_at (PlaceAfter key) new after ≡ after = after_absent key new after z in
    let now = λ (x : Trees Item). ap (λ t. if t then tree r root below (joined_trees new x) else tree r root (put_at (PlaceAfter key) new below) (put_at (PlaceAfter key) new x)) (other_key r key w) in
    record { inside = put_at (PlaceAfter key) new below; whole = now after ∙ ap (tree r root (put_at (PlaceAfter key) new below)) out; alone = now none }

-- new trees at a spot beside or below an attached node
pub put_sides : (r : ℕ) (root : Item) (below after : Trees Item) (action : AddAction) (target : ℤ) (key : ℕ) (new : Trees Item)
    → ((j : ℕ) → uses j (tree r root below after) ≤ 1) → names target (tree r root below none) ≤ 1 → 1 ≤ named target key (tree r root below none) → IsBelowRoot (placed action key) r
    → sides (put_at (placed action key) new (tree r root below after)) ≡ record { attached = put action target (labels new) (labels (tree r root below none)); detached = labels after }
put_sides r root below after action target key new once distinct h w =
    let f : Named target key (tree r root below none) = found_named target key top (tree r root below none) h in
    let there : 1 ≤ uses key (tree r root below none) = omega (arith, h, named-uses target key (tree r root below none)) in
    let z : path_names target f.path ≡ 0 = omega (arith, distinct, ap (λ x. names target x) f.is, names-plug target f.path (tree key f.item f.below f.after), counted_one (int_eq f.item.id target) f.same) in
    let u : path_uses key f.path ≡ 0 = omega (arith, once key, ap (λ x. uses key x) f.is, uses-plug key f.path (tree key f.item f.below f.after), one_same key) in
    let away : uses (key_of (placed action key)) after ≡ 0 = by_place action key after (omega (arith, once key, there)) in
    let o : Fronted r root below after (placed action key) new = fronted r root below after (placed action key) new away w in
    let put_in : put action target (labels new) (labels (tree r root below none)) ≡ labels (put_at (placed action key) new (tree r root below none)) =
    ap (λ x. put action target (labels new) (labels x)) f.is ∙ (put_labels action target f.path key f.item f.below f.after new f.same z u ∙ ap (λ x. labels (put_at (placed action key) new x)) (sym f.is)) in
    ap sides o.whole
    ∙ ((λ i. let s : Arranged = record { attached = labels (sym o.alone i); detached = labels after } in s)
    ∙ (λ i. let s : Arranged = record { attached = sym put_in i; detached = labels after } in s))
  where
    by_place : (action : AddAction) (key : ℕ) (after : Trees Item) → uses key after ≡ 0 → uses (key_of (placed action key)) after ≡ 0
    by_place Head key after z = z
    by_place Tail key after z = z
    by_place Before key after z = z
    by_place After key after z = z

-- a subtree is put in elsewhere
module _ (r : ℕ) (root : Item) (below after : Trees Item) (k : ℕ) (once : (j : ℕ) → uses j (tree r root below after) ≤ 1) (u : 1 ≤ uses k below)
    (id : ℤ) (distinct : (x : ℤ) → names x (tree r root below none) ≤ 1) (h : 1 ≤ named id k (tree r root below none)) where
  pub move_sides : (action : AddAction) (target : ℤ) (key : ℕ) → 1 ≤ named target key (front (without_key k (tree r root below after))) → IsBelowRoot (placed action key) r
      → sides (shifted k (placed action key) (tree r root below after)) ≡ moving id action target (sides (tree r root below after))
  move_sides action target key there w =
      let g : Found k below = found k top below u in
      let rest : Trees Item = tree r root (plug g.path g.after) none in
      let now : shifted k (placed action key) (tree r root below after) ≡ put_at (placed action key) (tree k g.value g.below none) (tree r root (plug g.path g.after) after) =
      (λ i. put_at (placed action key) (branch_is r root below after k once u i) (left_is r root below after k once u i)) in
      let fewer : names target rest ≤ 1 = omega (arith, distinct target, ap (λ t. names target t) g.is, names-plug target g.path (tree k g.value g.below g.after), names-plug target g.path g.after) in
      let here : 1 ≤ named target key rest = subst (λ t. 1 ≤ named target key (front t)) (left_is r root below after k once u) there in
      ap sides now
      ∙ (put_sides r root (plug g.path g.after) after action target key (tree k g.value g.below none) (λ j. omega (arith, once j, left_once r root below after k once u j)) fewer here w
      ∙ (λ i. let s : Arranged = record {
        attached = put action target (sym (attached_branch r root below after k once u id (distinct id) h) i) (sym (attached_without r root below after k once u id (distinct id) h) i);
        detached = labels after;
      } in s))
