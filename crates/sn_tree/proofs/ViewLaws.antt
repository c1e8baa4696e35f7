-- How an attached node is seen: its neighbours by their keys have the ids that the nodes tell.
use Rattle.std.proofs.Common.{◌≡◌, ◌≢◌, ℕ, ◌≤◌, ℤ, negsuc, true, false, Option, Some, None, sym, refl, ap, ◌∙◌, subst, ⊎_elim, arith}
use Rattle.std.specs.Prelude.{if◌then◌else◌, ◌==◌}
use Rattle.std.specs.Ordering.{int_eq}
use Rattle.std.proofs.lemmas.Bool.Decides.{eqb_tells}
use Rattle.sn_forest.specs.Trees.{Trees, none, tree, uses, first_key, last_key, value_of, links_of}
use Rattle.sn_forest.specs.declared.links.Links.{Links}
use Rattle.sn_forest.proofs.Keys.{some_or_none, one_same, same_key, other_key, apart}
use Rattle.sn_forest.proofs.Paths.{Path, top, under, beside, plug, parent_of, previous_of, path_uses, uses-plug}
use Rattle.sn_forest.proofs.Passing.{value_found, links_found}
use Rattle.sn_forest.proofs.Walking.{none_first, some_first}
use Rattle.sn_forest.proofs.Climbing.{over, plug-over}
use Rattle.sn_tree.specs.declared.node.NodeView.{NodeView}
use Rattle.sn_tree.specs.Trees.{holds, first_id, last_id, view_from, view_of}
use Rattle.sn_tree.specs.Views.{seen}
use Rattle.sn_tree.specs.declared.item.Item.{Item}
use Rattle.sn_tree.specs.Keyed.{label_by, labels, front, named, names, id_of, id_in, is_first, view_by, view_in_row, view_of_key}
use Rattle.sn_tree.proofs.KeyedPaths.{plug_labels, labels-plug, path_names, names-plug, counted_none, counted_one, is_held, not_held}
use Rattle.sn_tree.proofs.KeyedLaws.{Named, found_named, both_true}

-- the ids of the node above a hole, and of the node before it, with -1 for none
abbrev pub parent_id : Path Item → ℤ
parent_id top = negsuc 0
parent_id (under key item after p) = item.id
parent_id (beside key item below p) = parent_id p

abbrev pub previous_id : Path Item → ℤ
previous_id top = negsuc 0
previous_id (under key item after p) = negsuc 0
previous_id (beside key item below p) = item.id

-- a node is seen from its level
view_plug : (id : ℤ) (p : Path Item) (t : Trees Item) → 1 ≤ names id t → path_names id p ≡ 0 → view_of id (plug_labels p (labels t)) ≡ view_from (parent_id p) (previous_id p) id (labels t)
view_plug id top t h z = refl
view_plug id (under key item after p) t h z =
    view_plug id p (tree key item t after) (omega (arith, h)) (omega (arith, z))
    ∙ (λ i. if counted_none (int_eq item.id id) (omega (arith, z)) i then Some (seen (parent_id p) (previous_id p) (label_by item) (labels t) (labels after))
    else if is_held id t h i then view_from item.id (negsuc 0) id (labels t) else view_from (parent_id p) item.id id (labels after))
view_plug id (beside key item below p) t h z =
    view_plug id p (tree key item below t) (omega (arith, h)) (omega (arith, z))
    ∙ (λ i. if counted_none (int_eq item.id id) (omega (arith, z)) i then Some (seen (parent_id p) (previous_id p) (label_by item) (labels below) (labels t))
    else if not_held id below (omega (arith, z)) i then view_from item.id (negsuc 0) id (labels below) else view_from (parent_id p) item.id id (labels t))

pub view_at : (id : ℤ) (p : Path Item) (key : ℕ) (item : Item) (below after : Trees Item) → int_eq item.id id ≡ true → path_names id p ≡ 0
    → view_of id (labels (plug p (tree key item below after))) ≡ Some (seen (parent_id p) (previous_id p) (label_by item) (labels below) (labels after))
view_at id p key item below after is z =
    ap (view_of id) (labels-plug p (tree key item below after))
    ∙ (view_plug id p (tree key item below after) (omega (arith, counted_one (int_eq item.id id) is)) z
    ∙ ap (λ b. if b then Some (seen (parent_id p) (previous_id p) (label_by item) (labels below) (labels after))
    else if holds id (labels below) then view_from item.id (negsuc 0) id (labels below) else view_from (parent_id p) item.id id (labels after)) is)

-- a key at the end of a path is that of a node with this id
id_found : (p : Path Item) (key : ℕ) (item : Item) (below after : Trees Item) → path_uses key p ≡ 0 → id_of (value_of key (plug p (tree key item below after))) ≡ item.id
id_found p key item below after z = ap id_of (value_found p key item below after z)

module _ (trees : Trees Item) (once : (j : ℕ) → uses j trees ≤ 1) where
  free : (p : Path Item) (key : ℕ) (item : Item) (below after : Trees Item) → trees ≡ plug p (tree key item below after) → path_uses key p ≡ 0
  free p key item below after is = omega (arith, once key, ap (λ x. uses key x) is, uses-plug key p (tree key item below after), one_same key)

  found_at : (p : Path Item) (key : ℕ) (item : Item) (below after : Trees Item) → trees ≡ plug p (tree key item below after) → id_in trees (Some key) ≡ item.id
  found_at p key item below after is = ap (λ t. id_of (value_of key t)) is ∙ id_found p key item below after (free p key item below after is)

  pub parent_is : (p : Path Item) (t : Trees Item) → trees ≡ plug p t → id_in trees (parent_of p) ≡ parent_id p
  parent_is top t is = refl
  parent_is (under key item after p) t is = found_at p key item t after is
  parent_is (beside key item below p) t is = parent_is p (tree key item below t) is

  pub previous_is : (p : Path Item) (t : Trees Item) → trees ≡ plug p t → id_in trees (previous_of p) ≡ previous_id p
  previous_is top t is = refl
  previous_is (under key item after p) t is = refl
  previous_is (beside key item below p) t is = found_at p key item below t is

  pub first_is : (p : Path Item) (t : Trees Item) → trees ≡ plug p t → id_in trees (first_key t) ≡ first_id (labels t)
  first_is p none is = refl
  first_is p (tree key item below after) is = found_at p key item below after is

  pub last_is : (p : Path Item) (t : Trees Item) (before : Option ℕ) → trees ≡ plug p t → id_in trees (last_key before t) ≡ last_id (id_in trees before) (labels t)
  last_is p none before is = refl
  last_is p (tree key item below after) before is =
      last_is (beside key item below p) after (Some key) is ∙ ap (λ x. last_id x (labels after)) (found_at p key item below after is)

-- what stands after the root's tree doesn't matter to those below it
parent_over : (q : Path Item) (r : ℕ) (root : Item) (s t : Trees Item) → parent_id (over q (under r root s top)) ≡ parent_id (over q (under r root t top))
parent_over top r root s t = refl
parent_over (under key item after q) r root s t = refl
parent_over (beside key item below q) r root s t = parent_over q r root s t

previous_over : (q : Path Item) (r : ℕ) (root : Item) (s t : Trees Item) → previous_id (over q (under r root s top)) ≡ previous_id (over q (under r root t top))
previous_over top r root s t = refl
previous_over (under key item after q) r root s t = refl
previous_over (beside key item below q) r root s t = refl

module _ (r : ℕ) (root : Item) (below after : Trees Item) (once : (j : ℕ) → uses j (tree r root below after) ≤ 1) where
  abbrev all : Trees Item
  all = tree r root below after

  -- a node below the root
  view_below : (id : ℤ) (q : Path Item) (key : ℕ) (item : Item) (inner later : Trees Item) → below ≡ plug q (tree key item inner later) → int_eq item.id id ≡ true → names id (tree r root below none) ≤ 1
      → view_of id (labels (tree r root below none)) ≡ view_of_key key all
  view_below id q key item inner later is same distinct =
      let near : Path Item = over q (under r root none top) in
      let far : Path Item = over q (under r root after top) in
      let front_is : tree r root below none ≡ plug near (tree key item inner later) = ap (λ x. tree r root x none) is ∙ sym (plug-over q (under r root none top) (tree key item inner later)) in
      let all_is : all ≡ plug far (tree key item inner later) = ap (λ x. tree r root x after) is ∙ sym (plug-over q (under r root after top) (tree key item inner later)) in
      let z : path_names id near ≡ 0 = omega (arith, distinct, ap (λ x. names id x) front_is, names-plug id near (tree key item inner later), counted_one (int_eq item.id id) same) in
      let u : path_uses key far ≡ 0 = free all once far key item inner later all_is in
      let there : 1 ≤ uses key below = omega (arith, ap (λ x. uses key x) is, uses-plug key q (tree key item inner later), one_same key) in
      let links : Links = record { parent = parent_of far; previous = previous_of far; next = first_key later; first = first_key inner; last = last_key None inner } in
      let told : view_of_key key all ≡ Some (view_by all false item links) =
      (λ i. view_in_row all (other_key r key (apart r key (omega (arith, once key, there))) i) ((ap (value_of key) all_is ∙ value_found far key item inner later u) i) ((ap (links_of key) all_is ∙ links_found far key item inner later u) i)) in
      ap (λ t. view_of id (labels t)) front_is
      ∙ (view_at id near key item inner later same z
      ∙ ((λ i. let v : NodeView = record {
        kind = item.kind;
        running = item.running;
        parent = (parent_over q r root none after ∙ sym (parent_is all once far (tree key item inner later) all_is)) i;
        previous = (previous_over q r root none after ∙ sym (previous_is all once far (tree key item inner later) all_is)) i;
        next = sym (first_is all once (beside key item inner far) later all_is) i;
        head = sym (first_is all once (under key item later far) inner all_is) i;
        tail = sym (last_is all once (under key item later far) inner None all_is) i;
      } in Some v)
      ∙ sym told))

  -- the root
  view_root : (id : ℤ) → int_eq root.id id ≡ true → view_of id (labels (tree r root below none)) ≡ view_of_key r all
  view_root id same =
      let links : Links = record { parent = None; previous = None; next = first_key after; first = first_key below; last = last_key None below } in
      let told : view_of_key r all ≡ Some (view_by all true root links) =
      (λ i. view_in_row all (same_key r i) (value_found top r root below after refl i) (links_found top r root below after refl i)) in
      view_at id top r root below none same refl
      ∙ ((λ i. let v : NodeView = record {
        kind = root.kind;
        running = root.running;
        parent = negsuc 0;
        previous = negsuc 0;
        next = negsuc 0;
        head = sym (first_is all once (under r root after top) below refl) i;
        tail = sym (last_is all once (under r root after top) below None refl) i;
      } in Some v)
      ∙ sym told)

  -- an attached node is seen by its key as by its id
  pub view_is : (id : ℤ) (key : ℕ) → 1 ≤ named id key (tree r root below none) → names id (tree r root below none) ≤ 1 → view_of id (labels (tree r root below none)) ≡ view_of_key key all
  view_is id key u distinct =
      ⊎_elim
      (λ (v : 1 ≤ named id key below).
      let f : Named id key below = found_named id key top below v in
      view_below id f.path key f.item f.below f.after f.is f.same distinct)
      (λ (v : named id key below ≤ 0).
      let own : (int_eq root.id id ≡ true) × ((r == key) ≡ true) = both_true (int_eq root.id id) (r == key) (omega (arith, u, v)) in
      subst (λ k. view_of id (labels (tree r root below none)) ≡ view_of_key k all) (key_is own.1) (view_root id own.0))
      (some_or_none (named id key below))
    where
      key_is : (r == key) ≡ true → r ≡ key
      key_is e = ⊎_elim (λ (q : ((r == key) ≡ true) × (r ≡ key)). q.1) (λ (q : ((r == key) ≡ false) × (r ≢ key)). absurd (let c : true ≡ false = sym e ∙ q.0 in cc)) (eqb_tells r key)

pub view_seen : (t : Trees Item) (id : ℤ) (key : ℕ) → ((j : ℕ) → uses j t ≤ 1) → names id (front t) ≤ 1 → 1 ≤ named id key (front t) → view_of id (labels (front t)) ≡ view_of_key key t
view_seen none id key once distinct u = absurd (omega (arith, u))
view_seen (tree r root below after) id key once distinct u = view_is r root below after once id key u distinct

-- whether a key is that of the first tree
pub root_is : (t : Trees Item) (root key : ℕ) → Some root ≡ first_key t → (root == key) ≡ is_first t key
root_is none root key e = absurd (none_first root (sym e))
root_is (tree k item below after) root key e = ap (λ x. x == key) (some_first root k e)
