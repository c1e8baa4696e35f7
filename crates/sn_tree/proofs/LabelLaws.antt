-- What the nodes tell of an attached one, found by its id.
use Rattle.std.proofs.Common.{◌≡◌, ℕ, ◌≤◌, ℤ, true, false, not, ◌&&◌, [], ◌∷◌, Some, sym, ap, ◌∙◌, ⊎_elim, arith}
use Rattle.std.specs.Prelude.{if◌then◌else◌, ◌==◌}
use Rattle.std.specs.Ordering.{int_eq}
use Rattle.std.proofs.lemmas.Bool.{cases_Bool}
use Rattle.sn_forest.specs.Trees.{Trees, none, tree, uses, has_key, subtree as subtree_of, value_of}
use Rattle.sn_forest.proofs.Keys.{one_same, present}
use Rattle.sn_forest.proofs.Paths.{Path, top, plug, path_uses, uses-plug}
use Rattle.sn_forest.proofs.Passing.{value_found, subtree_found}
use Rattle.sn_tree.specs.declared.item.Item.{Item}
use Rattle.sn_tree.specs.declared.node.AddAction.{AddAction}
use Rattle.sn_tree.specs.declared.node.TreeFault.TheVariants.{NoNode, IsRoot, NotGroup}
use Rattle.sn_tree.specs.Trees.{holds, label_of, subtree}
use Rattle.sn_tree.specs.Faults.{first_fault, spot_fault, is_missing, is_beside_root, is_in_synth, is_inside, is_synth, labels_synth}
use Rattle.sn_tree.specs.Keyed.{label_by, labels, front, named, names}
use Rattle.sn_tree.proofs.KeyedPaths.{path_names, names-plug, counted_one, is_held, id_label, id_subtree}
use Rattle.sn_tree.proofs.KeyedLaws.{Named, found_named, named-uses, named-names}
use Rattle.sn_tree.proofs.StoredLaws.{value_front}

-- an attached node, the way to it, and what it is
pub record At (t : Trees Item) (id : ℤ) (key : ℕ) : Type 0 where
  pub path : Path Item
  pub item : Item
  pub below : Trees Item
  pub after : Trees Item
  pub is : front t ≡ plug path (tree key item below after)
  pub same : int_eq item.id id ≡ true
  pub free : path_names id path ≡ 0
  pub free_key : path_uses key path ≡ 0
  pub held : value_of key t ≡ Some item

pub at : (t : Trees Item) (id : ℤ) (key : ℕ) → ((j : ℕ) → uses j t ≤ 1) → names id (front t) ≤ 1 → 1 ≤ named id key (front t) → At t id key
at none id key once distinct h = absurd (omega (arith, h))
at (tree r root below after) id key once distinct h =
    let f : Named id key (tree r root below none) = found_named id key top (tree r root below none) h in
    let u : path_uses key f.path ≡ 0 = omega (arith, once key, ap (λ x. uses key x) f.is, uses-plug key f.path (tree key f.item f.below f.after), one_same key) in
    let here : 1 ≤ uses key (tree r root below none) = omega (arith, h, named-uses id key (tree r root below none)) in
    record {
      path = f.path;
      item = f.item;
      below = f.below;
      after = f.after;
      is = f.is;
      same = f.same;
      free = omega (arith, distinct, ap (λ x. names id x) f.is, names-plug id f.path (tree key f.item f.below f.after), counted_one (int_eq f.item.id id) f.same);
      free_key = u;
      held = value_front r root below after once key here ∙ (ap (value_of key) f.is ∙ value_found f.path key f.item f.below f.after u);
    }

-- the tree of an attached node
pub subtree_front : (r : ℕ) (root : Item) (below after : Trees Item) (key : ℕ) → 1 ≤ uses key (tree r root below none) → subtree_of key (tree r root below after) ≡ subtree_of key (tree r root below none)
subtree_front r root below after key u =
    ⊎_elim
    (λ (e : (r == key) ≡ true).
    ap (λ b. if b then tree r root below none else if has_key key below then subtree_of key below else subtree_of key after) e
    ∙ sym (ap (λ b. if b then tree r root below none else if has_key key below then subtree_of key below else none) e))
    (λ (e : (r == key) ≡ false).
    let there : has_key key below ≡ true = present key below (omega (arith, u, ap {B = ℕ} (λ b. if b then 1 else 0) e)) in
    (λ i. if e i then tree r root below none else if there i then subtree_of key below else subtree_of key after)
    ∙ sym (λ i. if e i then tree r root below none else if there i then subtree_of key below else none))
    (cases_Bool (r == key))

pub subtree_at : (t : Trees Item) (id : ℤ) (key : ℕ) (a : At t id key) → subtree_of key t ≡ tree key a.item a.below none
subtree_at none id key a = absurd (omega (arith, ap (λ x. uses key x) a.is, uses-plug key a.path (tree key a.item a.below a.after), one_same key))
subtree_at (tree r root below after) id key a =
    let u : 1 ≤ uses key (tree r root below none) = omega (arith, ap (λ x. uses key x) a.is, uses-plug key a.path (tree key a.item a.below a.after), one_same key) in
    subtree_front r root below after key u ∙ (ap (subtree_of key) a.is ∙ subtree_found a.path key a.item a.below a.after a.free_key)

module _ (t : Trees Item) (id : ℤ) (key : ℕ) (a : At t id key) where
  pub at_label : label_of id (labels (front t)) ≡ Some (label_by a.item)
  at_label = ap (λ x. label_of id (labels x)) a.is ∙ id_label id a.path key a.item a.below a.after a.same a.free

  pub at_subtree : subtree id (labels (front t)) ≡ labels (tree key a.item a.below none)
  at_subtree = ap (λ x. subtree id (labels x)) a.is ∙ id_subtree id a.path key a.item a.below a.after a.same a.free

  pub at_item : (item : Item) → Some item ≡ value_of key t → item ≡ a.item
  at_item item e = same_item item a.item (e ∙ a.held)
    where
      same_item : (x y : Item) → Some x ≡ Some y → x ≡ y
      same_item x y e = cc

pub named_held : (t : Trees Item) (id : ℤ) (key : ℕ) → 1 ≤ named id key (front t) → holds id (labels (front t)) ≡ true
named_held t id key h = is_held id (front t) (omega (arith, h, named-names id key (front t)))

-- why nothing can be put at such a spot of an attached node
pub spot_at : (t : Trees Item) (action : AddAction) (id : ℤ) (key : ℕ) (item : Item) → At t id key → 1 ≤ named id key (front t) → Some item ≡ value_of key t
    → spot_fault action id (labels (front t)) ≡ first_fault ((is_beside_root action id, IsRoot) ∷ (is_inside action && is_synth item.kind, NotGroup) ∷ [])
spot_at t action id key item a h e =
    let there : is_missing id (labels (front t)) ≡ false = ap not (named_held t id key h) in
    let kind : is_in_synth action id (labels (front t)) ≡ (is_inside action && is_synth item.kind) =
    ap (λ l. is_inside action && labels_synth l) (at_label t id key a) ∙ ap (λ (x : Item). is_inside action && is_synth x.kind) (sym (at_item t id key a item e)) in
    (λ i. first_fault ((there i, NoNode) ∷ (is_beside_root action id, IsRoot) ∷ (kind i, NotGroup) ∷ []))

-- an attached node is one of all
pub named_there : (t : Trees Item) (id : ℤ) (key : ℕ) → 1 ≤ named id key (front t) → 1 ≤ uses key t
named_there none id key u = absurd (omega (arith, u))
named_there (tree r root below after) id key u = omega (arith, u, named-uses id key (tree r root below none))

-- the tree of an attached node, by its key and by its id
pub tree_of_id : (t : Trees Item) (id : ℤ) (key : ℕ) → ((j : ℕ) → uses j t ≤ 1) → names id (front t) ≤ 1 → 1 ≤ named id key (front t) → labels (subtree_of key t) ≡ subtree id (labels (front t))
tree_of_id t id key once distinct u =
    let a : At t id key = at t id key once distinct u in
    ap labels (subtree_at t id key a) ∙ sym (at_subtree t id key a)

pub named_front : (t : Trees Item) (id : ℤ) (key : ℕ) → 1 ≤ named id key (front t) → 1 ≤ uses key (front t)
named_front t id key u = omega (arith, u, named-uses id key (front t))
