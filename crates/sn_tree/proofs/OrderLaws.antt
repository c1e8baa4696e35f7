-- What the calls by keys make of the attached and the detached nodes.
use Rattle.std.proofs.Common.{◌≡◌, ◌≢◌, ℕ, ◌+◌, ◌≤◌, ℤ, pos, Bool, true, false, ◌&&◌, Option, Some, None, sym, refl, ap, ◌∙◌, subst, ⊎_elim, arith}
use Rattle.std.specs.Prelude.{if◌then◌else◌, ◌==◌}
use Rattle.std.specs.Option.{option_map}
use Rattle.std.specs.Ordering.{int_eq}
use Rattle.std.proofs.lemmas.Bool.{cases_Bool}
use Rattle.std.proofs.lemmas.Bool.Decides.{Decides-int_eq}
use Rattle.sn_forest.specs.Trees.{Trees, none, tree, one_at, uses, count, has_key, last_key, subtree as subtree_of, without as without_key}
use Rattle.sn_forest.specs.Places.{put as put_at, shifted}
use Rattle.sn_forest.specs.Walking.{behind_node, behind_tree}
use Rattle.sn_forest.specs.declared.place.Place.TheVariants.{After as PlaceAfter}
use Rattle.sn_forest.proofs.Keys.{one_same, other_key, apart, missing, present}
use Rattle.sn_forest.proofs.Walking.{some_first}
use Rattle.sn_forest.proofs.Paths.{top, path_uses, uses-plug, Found, found}
use Rattle.sn_forest.proofs.Passing.{untouched, subtree_found}
use Rattle.sn_tree.specs.declared.item.Item.{Item}
use Rattle.sn_tree.specs.declared.node.NodeKind.{NodeKind}
use Rattle.sn_tree.specs.declared.node.AddAction.{AddAction}
use Rattle.sn_tree.specs.declared.node.AddAction.TheVariants.{Head, Tail, Before, After}
use Rattle.sn_tree.specs.Trees.{Label, Nodes, none as no_nodes, node, holds, subtree, count as count_nodes, put, first_label, without_first, changed, with_running}
use Rattle.sn_tree.specs.Faults.{is_beside_root}
use Rattle.sn_tree.specs.Order.{Key}
use Rattle.sn_tree.specs.Arranged.{Arranged}
use Rattle.sn_tree.specs.Steps.{inserting, detaching, attaching, setting}
use Rattle.sn_tree.specs.Keyed.{labels, front, sides, counted, named, names, placed, flagged, with_behind, first_value}
use Rattle.sn_tree.specs.Stored.{EachOnce, IsBelowRoot, IsAmong, IsSound, IsLastTop, tops}
use Rattle.sn_tree.proofs.KeyedPaths.{labels-plug, id_changed}
use Rattle.sn_tree.proofs.KeyedLaws.{both_true, named-uses, labels-joined, put_sides, detach_sides}
use Rattle.sn_tree.proofs.StoredLaws.{same_item}
use Rattle.sn_tree.proofs.Sums.{uses_sum, out_all}
use Rattle.sn_tree.proofs.FlagLaws.{with_flag, flag_step, flag_at}
use Rattle.sn_tree.proofs.Away.{without_absent}
use Rattle.sn_tree.proofs.LabelLaws.{At, at}

pub tops-uses : (k : ℕ) (t : Trees Item) → tops k t ≤ uses k t
tops-uses k none = omega arith
tops-uses k (tree key item below after) = omega (arith, tops-uses k after)

-- the top of a detached tree is a node, and counts itself
pub top_used : (k : ℕ) (t : Trees Item) → 1 ≤ tops k (behind_tree t) → 1 ≤ uses k t
top_used k none h = absurd (omega (arith, h))
top_used k (tree key item below after) h = omega (arith, h, tops-uses k after)

pub some_nodes : (k : ℕ) (t : Trees Item) → ((j : ℕ) → uses j t ≤ 1) → 1 ≤ uses k t → 1 ≤ count (subtree_of k t)
some_nodes k t once u =
    let f : Found k t = found k top t u in
    let free : path_uses k f.path ≡ 0 = omega (arith, once k, ap (λ x. uses k x) f.is, uses-plug k f.path (tree k f.value f.below f.after), one_same k) in
    omega (arith, ap (λ (x : Trees Item). count x) (ap (subtree_of k) f.is ∙ subtree_found f.path k f.value f.below f.after free))

-- no id is twice in the tree of a detached top
pub top_once : (k : ℕ) (t : Trees Item) → ((j : ℕ) → uses j t ≤ 1) → EachOnce t → 1 ≤ tops k t → (id : ℤ) → names id (subtree_of k t) ≤ 1
top_once k none once h u id = omega arith
top_once k (tree key item below after) once h u id =
    ⊎_elim
    (λ (e : (key == k) ≡ true). omega (arith, h.0 id, ap (λ b. names id (if b then tree key item below none else if has_key k below then subtree_of k below else subtree_of k after)) e))
    (λ (e : (key == k) ≡ false).
    let later : 1 ≤ tops k after = omega (arith, u, ap {B = ℕ} (λ b. if b then 1 else 0) e) in
    let gone : has_key k below ≡ false = missing k below (omega (arith, once k, later, tops-uses k after)) in
    omega (
      arith,
      top_once k after (λ j. omega (arith, once j)) h.1 later id,
      ap (λ b. names id (if b then tree key item below none else if has_key k below then subtree_of k below else subtree_of k after)) e,
      ap (λ b. names id (if b then subtree_of k below else subtree_of k after)) gone,
    ))
    (cases_Bool (key == k))

flag_absent : (k : ℕ) (on : Bool) (t : Trees Item) → uses k t ≡ 0 → flagged k on t ≡ t
flag_absent k on t z = untouched (flagged k on) k refl (flag_step k on) t z

module _ (r : ℕ) (root : Item) (below after : Trees Item) (once : (j : ℕ) → uses j (tree r root below after) ≤ 1) (h : IsSound (tree r root below after)) where
  abbrev all : Trees Item
  all = tree r root below after

  root_id : root.id ≡ pos 0
  root_id = same_item (λ (x : Item). x.id) r root below after h.root ∙ h.root.id

  -- the root has the id 0, and no other attached node has
  pub not_root : (id : ℤ) (key : ℕ) → 1 ≤ named id key (front all) → int_eq id (pos 0) ≡ false → r ≢ key
  not_root id key u n e =
      let gone : uses key below ≡ 0 = omega (arith, once key, subst (λ x. one_at r x ≡ 1) e (one_same r)) in
      let own : 1 ≤ counted (int_eq root.id id && (r == key)) = omega (arith, u, named-uses id key below, gone) in
      let zero : id ≡ pos 0 = sym ((Decides-int_eq root.id id).0 (both_true (int_eq root.id id) (r == key) own).0) ∙ root_id in
      absurd (let c : true ≡ false = sym ((Decides-int_eq id (pos 0)).1 zero) ∙ n in cc)

  pub is_below : (id : ℤ) (key : ℕ) → 1 ≤ named id key (front all) → int_eq id (pos 0) ≡ false → 1 ≤ uses key below
  is_below id key u n =
      let away : one_at r key ≡ 0 = ap {B = ℕ} (λ b. if b then 1 else 0) (other_key r key (not_root id key u n)) in
      omega (arith, u, named-uses id key (tree r root below none), away)

  pub spot_below : (action : AddAction) (target : ℤ) (key : ℕ) → 1 ≤ named target key (front all) → is_beside_root action target ≡ false → IsBelowRoot (placed action key) r
  spot_below Head target key u n = tt
  spot_below Tail target key u n = tt
  spot_below Before target key u n = not_root target key u n
  spot_below After target key u n = not_root target key u n

  pub spot_among : (action : AddAction) (target : ℤ) (key : ℕ) → 1 ≤ named target key (front all) → is_beside_root action target ≡ false → IsAmong all (placed action key)
  spot_among Head target key u n =
      let there : 1 ≤ uses key (tree r root below none) = omega (arith, u, named-uses target key (tree r root below none)) in
      (omega (arith, there), present key (tree r root below none) there)
  spot_among Tail target key u n =
      let there : 1 ≤ uses key (tree r root below none) = omega (arith, u, named-uses target key (tree r root below none)) in
      (omega (arith, there), present key (tree r root below none) there)
  spot_among Before target key u n =
      let there : 1 ≤ uses key below = is_below target key u n in
      ((omega (arith, there), λ e. not_root target key u n (some_first r key e)), present key below there)
  spot_among After target key u n =
      let there : 1 ≤ uses key below = is_below target key u n in
      (omega (arith, there), present key below there)

  -- a new node
  pub inserted_sides : (action : AddAction) (target : ℤ) (key k : ℕ) (id : ℤ) (kind : NodeKind) (payload : Option ℕ) → 1 ≤ named target key (front all) → is_beside_root action target ≡ false
      → sides (put_at (placed action key) (tree k (record { id = id; kind = kind; running = true; key = payload }) none none) all) ≡ inserting id kind action target payload (sides all)
  inserted_sides action target key k id kind payload u n =
      put_sides r root below after action target key (tree k (record { id = id; kind = kind; running = true; key = payload }) none none) once (h.distinct target) u (spot_below action target key u n)

  -- a node out of the attached ones
  pub detached_sides : (id : ℤ) (key end : ℕ) → 1 ≤ named id key (front all) → int_eq id (pos 0) ≡ false → last_key None all ≡ Some end → sides (shifted key (PlaceAfter end) all) ≡ detaching id (sides all)
  detached_sides id key end u n e = detach_sides r root below after key once (is_below id key u n) id (h.distinct id) u end e

  -- a node is paused, or runs
  run_apart : (key : ℕ) (on : Bool) → uses key after ≡ 0 → sides (flagged key on all) ≡ record { attached = labels (flagged key on (front all)); detached = labels after }
  run_apart key on z =
      ⊎_elim
      (λ (e : (r == key) ≡ true).
      ap (λ b. sides (if b then tree r (with_flag on root) below after else tree r root (flagged key on below) (flagged key on after))) e
      ∙ (λ i. let s : Arranged = record { attached = labels (if sym e i then tree r (with_flag on root) below none else tree r root (flagged key on below) none); detached = labels after } in s))
      (λ (e : (r == key) ≡ false).
      ap (λ b. sides (if b then tree r (with_flag on root) below after else tree r root (flagged key on below) (flagged key on after))) e
      ∙ (λ i. let s : Arranged = record { attached = labels (if sym e i then tree r (with_flag on root) below none else tree r root (flagged key on below) none); detached = labels (flag_absent key on after z i) } in s))
      (cases_Bool (r == key))

  pub run_sides : (id : ℤ) (key : ℕ) (on : Bool) → 1 ≤ named id key (front all) → sides (flagged key on all) ≡ setting id on (sides all)
  run_sides id key on u =
      let a : At all id key = at all id key once (h.distinct id) u in
      let gone : uses key after ≡ 0 = omega (arith, once key, u, named-uses id key (tree r root below none)) in
      let now : labels (flagged key on (front all)) ≡ changed id (with_running on) (labels (front all)) =
      ap (λ x. labels (flagged key on x)) a.is
      ∙ (ap labels (flag_at a.path key on a.item a.below a.after a.free_key)
      ∙ (labels-plug a.path (tree key (with_flag on a.item) a.below a.after)
      ∙ (sym (id_changed id a.path key a.item a.below a.after a.same a.free (with_running on)) ∙ ap (λ x. changed id (with_running on) (labels x)) (sym a.is)))) in
      run_apart key on gone ∙ (λ i. let s : Arranged = record { attached = now i; detached = labels after } in s)

  -- a detached subtree is put in
  module _ (id : ℤ) (k : ℕ) (l : IsLastTop (tree r root below after) id k) where
    pub top_there : 1 ≤ uses k after
    top_there = omega (arith, l.there, tops-uses k after)

    pub top_out : without_key k all ≡ tree r root below (without_key k after)
    top_out =
        ap (λ b. if b then without_key k after else tree r root (without_key k below) (without_key k after)) (other_key r k (apart r k (omega (arith, once k, top_there))))
        ∙ ap (λ x. tree r root x (without_key k after)) (without_absent k below (omega (arith, once k, top_there)))

    pub attached_sides : (action : AddAction) (target : ℤ) (key : ℕ) → 1 ≤ named target key (front all) → is_beside_root action target ≡ false → sides (shifted k (placed action key) all) ≡ attaching id action target (sides all)
    attached_sides action target key u n =
        let fewer : (j : ℕ) → uses j (tree r root below (without_key k after)) ≤ 1 =
        λ j. omega (arith, once j, out_all (λ (t : Trees Item). uses j t) (uses_sum j) k all once (omega (arith, top_there)), ap (λ x. uses j x) top_out) in
        (λ i. sides (put_at (placed action key) (subtree_of k all) (top_out i)))
        ∙ (put_sides r root below (without_key k after) action target key (subtree_of k all) fewer (h.distinct target) u (spot_below action target key u n)
        ∙ (λ i. let s : Arranged = record {
          attached = put action target (sym l.last i) (labels (tree r root below none));
          detached = sym (l.rest ∙ ap (λ t. labels (behind_tree t)) top_out) i;
        } in s))

-- the first detached node ends
pub freed_sides : (t : Trees Item) → sides (with_behind (behind_node (behind_tree t)) t) ≡ record { attached = labels (front t); detached = without_first (labels (behind_tree t)) }
freed_sides none = refl
freed_sides (tree r root below none) = refl
freed_sides (tree r root below (tree k item inner after)) = (λ i. let s : Arranged = record { attached = labels (tree r root below none); detached = labels-joined inner after i } in s)

pub first_payload : (t : Trees Item) → option_map (λ (i : Item). i.key) (first_value t) ≡ option_map (λ (l : Label Key). l.payload) (first_label (labels t))
first_payload none = refl
first_payload (tree k item inner after) = refl

pub count-labels : (t : Trees Item) → count_nodes (labels t) ≡ count t
count-labels none = refl
count-labels (tree key item below after) = omega (arith, count-labels below, count-labels after)

-- a subtree has no more nodes than all
few_nodes : {P : Type 0} (id : ℤ) (t : Nodes P) → count_nodes (subtree id t) ≤ count_nodes t
few_nodes id no_nodes = omega arith
few_nodes id (node label below after) = by_tests (int_eq label.id id) (holds id below) (few_nodes id below) (few_nodes id after)
  where
    by_tests : (here inner : Bool) → count_nodes (subtree id below) ≤ count_nodes below → count_nodes (subtree id after) ≤ count_nodes after
        → count_nodes (if here then node label below no_nodes else if inner then subtree id below else subtree id after) ≤ 1 + count_nodes below + count_nodes after
    by_tests true inner b a = omega arith
    by_tests false true b a = omega (arith, b)
    by_tests false false b a = omega (arith, a)

pub few_in : (t : Trees Item) (id : ℤ) (rest : Trees Item) → labels rest ≡ subtree id (labels (front t)) → count (front t) ≤ 4096 → count rest ≤ 4096
few_in t id rest e few = omega (arith, few, few_nodes id (labels (front t)), count-labels (front t), count-labels rest, ap (λ (n : Nodes Key). count_nodes n) e)
