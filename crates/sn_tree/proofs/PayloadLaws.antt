-- Nodes whose payloads are changed are the same nodes in the same places.
use Rattle.std.proofs.Common.{◌≡◌, ℤ, pos, negsuc, ◌+◌, Bool, true, false, not, ◌&&◌, ◌||◌, [], ◌∷◌, ◌++◌, Option, Some, None, refl, ap, ◌∙◌, nat_lt}
use Rattle.std.specs.Prelude.{if◌then◌else◌}
use Rattle.std.specs.Option.{option_map}
use Rattle.std.specs.Ordering.{int_eq}
use Rattle.sn_tree.specs.declared.node.AddAction.{AddAction}
use Rattle.sn_tree.specs.declared.node.AddAction.TheVariants.{Head, Tail, Before, After}
use Rattle.sn_tree.specs.declared.node.NodeView.{NodeView}
use Rattle.sn_tree.specs.declared.node.TreeFault.TheVariants.{NoNode, InUse, NotGroup, IsRoot, Inside, TooMany}
use Rattle.sn_tree.specs.Trees.{Label, Nodes, none, node, holds, label_of, children, count, ids, subtree, without, joined, beside, put, changed, first_id, last_id, first_of, view_from, with_payloads, has_top, last_top, without_last, shares, first_label, without_first}
use Rattle.sn_tree.specs.Views.{seen, views_from, views_at}
use Rattle.sn_tree.specs.Faults.{labels_synth, is_inside, is_beside_root, insert_fault, replace_fault, detach_fault, set_run_fault, move_fault, attach_fault, first_fault}

-- a label with its payload changed
abbrev pub relabelled : {P Q : Type 0} → (P → Q) → Label P → Label Q
relabelled f label = record { id = label.id; kind = label.kind; running = label.running; payload = f label.payload }

-- a choice on each side, by the same test
both : {A B : Type 0} (g : A → B) (c : Bool) (x : B) (x' : A) (y : B) (y' : A) → x ≡ g x' → y ≡ g y' → (if c then x else y) ≡ g (if c then x' else y')
both g true x x' y y' p q = p
both g false x x' y y' p q = q

-- the same, if the test is of changed nodes
both_at : {A B : Type 0} (g : A → B) (c c' : Bool) (x : B) (x' : A) (y : B) (y' : A) → c ≡ c' → x ≡ g x' → y ≡ g y' → (if c then x else y) ≡ g (if c' then x' else y')
both_at g c c' x x' y y' e p q = ap (λ b. if b then x else y) e ∙ both g c' x x' y y' p q

module _ {P Q : Type 0} (f : P → Q) where
  pub holds-payloads : (id : ℤ) (t : Nodes P) → holds id (with_payloads f t) ≡ holds id t
  holds-payloads id none = refl
  holds-payloads id (node label below after) = λ i. int_eq label.id id || (holds-payloads id below i || holds-payloads id after i)

  pub count-payloads : (t : Nodes P) → count (with_payloads f t) ≡ count t
  count-payloads none = refl
  count-payloads (node label below after) = λ i. 1 + count-payloads below i + count-payloads after i

  pub ids-payloads : (t : Nodes P) → ids (with_payloads f t) ≡ ids t
  ids-payloads none = refl
  ids-payloads (node label below after) = λ i. label.id ∷ ids-payloads below i ++ ids-payloads after i

  pub label-payloads : (id : ℤ) (t : Nodes P) → label_of id (with_payloads f t) ≡ option_map (relabelled f) (label_of id t)
  label-payloads id none = refl
  label-payloads id (node label below after) =
      both (option_map (relabelled f)) (int_eq label.id id) _ _ _ _ refl
      (both_at (option_map (relabelled f)) (holds id (with_payloads f below)) (holds id below) _ _ _ _ (holds-payloads id below) (label-payloads id below) (label-payloads id after))

  pub children-payloads : (id : ℤ) (t : Nodes P) → children id (with_payloads f t) ≡ with_payloads f (children id t)
  children-payloads id none = refl
  children-payloads id (node label below after) =
      both (with_payloads f) (int_eq label.id id) _ _ _ _ refl
      (both_at (with_payloads f) (holds id (with_payloads f below)) (holds id below) _ _ _ _ (holds-payloads id below) (children-payloads id below) (children-payloads id after))

  pub subtree-payloads : (id : ℤ) (t : Nodes P) → subtree id (with_payloads f t) ≡ with_payloads f (subtree id t)
  subtree-payloads id none = refl
  subtree-payloads id (node label below after) =
      both (with_payloads f) (int_eq label.id id) _ _ _ _ refl
      (both_at (with_payloads f) (holds id (with_payloads f below)) (holds id below) _ _ _ _ (holds-payloads id below) (subtree-payloads id below) (subtree-payloads id after))

  pub without-payloads : (id : ℤ) (t : Nodes P) → without id (with_payloads f t) ≡ with_payloads f (without id t)
  without-payloads id none = refl
  without-payloads id (node label below after) =
      both (with_payloads f) (int_eq label.id id) _ _ _ _ refl
      (both_at (with_payloads f) (holds id (with_payloads f below)) (holds id below) _ _ _ _ (holds-payloads id below)
      (ap (λ t. node (relabelled f label) t (with_payloads f after)) (without-payloads id below))
      (ap (λ t. node (relabelled f label) (with_payloads f below) t) (without-payloads id after)))

  pub joined-payloads : (s t : Nodes P) → joined (with_payloads f s) (with_payloads f t) ≡ with_payloads f (joined s t)
  joined-payloads none t = refl
  joined-payloads (node label below after) t = ap (λ u. node (relabelled f label) (with_payloads f below) u) (joined-payloads after t)

  beside-payloads : (action : AddAction) (new : Nodes P) (label : Label P) (below after : Nodes P) → beside action (with_payloads f new) (relabelled f label) (with_payloads f below) (with_payloads f after) ≡ with_payloads f (beside action new label below after)
  beside-payloads Head new label below after = ap (λ u. node (relabelled f label) u (with_payloads f after)) (joined-payloads new below)
  beside-payloads Tail new label below after = ap (λ u. node (relabelled f label) u (with_payloads f after)) (joined-payloads below new)
  beside-payloads Before new label below after = joined-payloads new (node label below after)
  beside-payloads After new label below after = ap (λ u. node (relabelled f label) (with_payloads f below) u) (joined-payloads new after)

  pub put-payloads : (action : AddAction) (target : ℤ) (new t : Nodes P) → put action target (with_payloads f new) (with_payloads f t) ≡ with_payloads f (put action target new t)
  put-payloads action target new none = refl
  put-payloads action target new (node label below after) =
      both (with_payloads f) (int_eq label.id target) _ _ _ _ (beside-payloads action new label below after)
      (both_at (with_payloads f) (holds target (with_payloads f below)) (holds target below) _ _ _ _ (holds-payloads target below)
      (ap (λ u. node (relabelled f label) u (with_payloads f after)) (put-payloads action target new below))
      (ap (λ u. node (relabelled f label) (with_payloads f below) u) (put-payloads action target new after)))

  -- a change of labels that is the same on both sides
  pub changed-payloads : (id : ℤ) (change : Label P → Label P) (change' : Label Q → Label Q) → ((label : Label P) → change' (relabelled f label) ≡ relabelled f (change label)) → (t : Nodes P)
      → changed id change' (with_payloads f t) ≡ with_payloads f (changed id change t)
  changed-payloads id change change' same none = refl
  changed-payloads id change change' same (node label below after) =
      both (with_payloads f) (int_eq label.id id) _ _ _ _ (ap (λ l. node l (with_payloads f below) (with_payloads f after)) (same label))
      (both_at (with_payloads f) (holds id (with_payloads f below)) (holds id below) _ _ _ _ (holds-payloads id below)
      (ap (λ u. node (relabelled f label) u (with_payloads f after)) (changed-payloads id change change' same below))
      (ap (λ u. node (relabelled f label) (with_payloads f below) u) (changed-payloads id change change' same after)))

  pub has_top-payloads : (id : ℤ) (t : Nodes P) → has_top id (with_payloads f t) ≡ has_top id t
  has_top-payloads id none = refl
  has_top-payloads id (node label below after) = λ i. int_eq label.id id || has_top-payloads id after i

  pub last_top-payloads : (id : ℤ) (t : Nodes P) → last_top id (with_payloads f t) ≡ with_payloads f (last_top id t)
  last_top-payloads id none = refl
  last_top-payloads id (node label below after) =
      both_at (with_payloads f) (has_top id (with_payloads f after)) (has_top id after) _ _ _ _ (has_top-payloads id after) (last_top-payloads id after)
      (both (with_payloads f) (int_eq label.id id) _ _ _ _ refl refl)

  pub without_last-payloads : (id : ℤ) (t : Nodes P) → without_last id (with_payloads f t) ≡ with_payloads f (without_last id t)
  without_last-payloads id none = refl
  without_last-payloads id (node label below after) =
      both_at (with_payloads f) (has_top id (with_payloads f after)) (has_top id after) _ _ _ _ (has_top-payloads id after)
      (ap (λ u. node (relabelled f label) (with_payloads f below) u) (without_last-payloads id after))
      (both (with_payloads f) (int_eq label.id id) _ _ _ _ refl refl)

  pub shares-payloads : (s : Nodes P) (t : Nodes P) → shares (with_payloads f s) (with_payloads f t) ≡ shares s t
  shares-payloads none t = refl
  shares-payloads (node label below after) t = λ i. holds-payloads label.id t i || (shares-payloads below t i || shares-payloads after t i)

  pub first_label-payloads : (t : Nodes P) → first_label (with_payloads f t) ≡ option_map (relabelled f) (first_label t)
  first_label-payloads none = refl
  first_label-payloads (node label below after) = refl

  pub without_first-payloads : (t : Nodes P) → without_first (with_payloads f t) ≡ with_payloads f (without_first t)
  without_first-payloads none = refl
  without_first-payloads (node label below after) = joined-payloads below after

  first_id-payloads : (t : Nodes P) → first_id (with_payloads f t) ≡ first_id t
  first_id-payloads none = refl
  first_id-payloads (node label below after) = refl

  last_id-payloads : (so_far : ℤ) (t : Nodes P) → last_id so_far (with_payloads f t) ≡ last_id so_far t
  last_id-payloads so_far none = refl
  last_id-payloads so_far (node label below after) = last_id-payloads label.id after

  pub first-payloads : (t : Nodes P) → first_of (with_payloads f t) ≡ first_of t
  first-payloads none = refl
  first-payloads (node label below after) = refl

  pub view-payloads : (parent previous id : ℤ) (t : Nodes P) → view_from parent previous id (with_payloads f t) ≡ view_from parent previous id t
  view-payloads parent previous id none = refl
  view-payloads parent previous id (node label below after) =
      both (λ o. o) (int_eq label.id id) _ _ _ _
      (λ i. Some (view_with (first_id-payloads after i) (first_id-payloads below i) (last_id-payloads (negsuc 0) below i)))
      (both_at (λ o. o) (holds id (with_payloads f below)) (holds id below) _ _ _ _ (holds-payloads id below) (view-payloads label.id (negsuc 0) id below) (view-payloads parent label.id id after))
    where
      view_with : ℤ → ℤ → ℤ → NodeView
      view_with next head tail = record { kind = label.kind; running = label.running; parent = parent; previous = previous; next = next; head = head; tail = tail }

  seen-payloads : (parent previous : ℤ) (label : Label P) (below after : Nodes P) → seen parent previous (relabelled f label) (with_payloads f below) (with_payloads f after) ≡ seen parent previous label below after
  seen-payloads parent previous label below after = λ i. view_with (first_id-payloads after i) (first_id-payloads below i) (last_id-payloads (negsuc 0) below i)
    where
      view_with : ℤ → ℤ → ℤ → NodeView
      view_with next head tail = record { kind = label.kind; running = label.running; parent = parent; previous = previous; next = next; head = head; tail = tail }

  views_from-payloads : (parent previous : ℤ) (t : Nodes P) → views_from parent previous (with_payloads f t) ≡ views_from parent previous t
  views_from-payloads parent previous none = refl
  views_from-payloads parent previous (node label below after) =
      λ i. (label.id, seen-payloads parent previous label below after i) ∷ (views_from-payloads label.id (negsuc 0) below i ++ views_from-payloads parent label.id after i)

  pub views-payloads : (parent previous id : ℤ) (t : Nodes P) → views_at parent previous id (with_payloads f t) ≡ views_at parent previous id t
  views-payloads parent previous id none = refl
  views-payloads parent previous id (node label below after) =
      both (λ l. l) (int_eq label.id id) _ _ _ _
      (λ i. (label.id, seen-payloads parent previous label below after i) ∷ views_from-payloads label.id (negsuc 0) below i)
      (both_at (λ l. l) (holds id (with_payloads f below)) (holds id below) _ _ _ _ (holds-payloads id below) (views-payloads label.id (negsuc 0) id below) (views-payloads parent label.id id after))

  synth-map : (o : Option (Label P)) → labels_synth (option_map (relabelled f) o) ≡ labels_synth o
  synth-map None = refl
  synth-map (Some label) = refl

  pub synth-payloads : (id : ℤ) (t : Nodes P) → labels_synth (label_of id (with_payloads f t)) ≡ labels_synth (label_of id t)
  synth-payloads id t = ap labels_synth (label-payloads id t) ∙ synth-map (label_of id t)

  pub insert_fault-payloads : (id : ℤ) (action : AddAction) (target : ℤ) (t : Nodes P) → insert_fault id action target (with_payloads f t) ≡ insert_fault id action target t
  insert_fault-payloads id action target t = λ i. first_fault (
      (holds-payloads id t i, InUse)
      ∷ (not (holds-payloads target t i), NoNode)
      ∷ (is_beside_root action target, IsRoot)
      ∷ (is_inside action && synth-payloads target t i, NotGroup)
      ∷ (nat_lt 4096 (count-payloads t i + 1), TooMany)
      ∷ [])

  pub replace_fault-payloads : (id target : ℤ) (t : Nodes P) → replace_fault id target (with_payloads f t) ≡ replace_fault id target t
  replace_fault-payloads id target t = λ i. first_fault ((holds-payloads id t i, InUse) ∷ (not (holds-payloads target t i), NoNode) ∷ (int_eq target (pos 0), IsRoot) ∷ [])

  pub detach_fault-payloads : (id : ℤ) (t : Nodes P) → detach_fault id (with_payloads f t) ≡ detach_fault id t
  detach_fault-payloads id t = λ i. first_fault ((not (holds-payloads id t i), NoNode) ∷ (int_eq id (pos 0), IsRoot) ∷ [])

  pub set_run_fault-payloads : (id : ℤ) (t : Nodes P) → set_run_fault id (with_payloads f t) ≡ set_run_fault id t
  set_run_fault-payloads id t = λ i. first_fault ((not (holds-payloads id t i), NoNode) ∷ [])

  pub move_fault-payloads : (id : ℤ) (action : AddAction) (target : ℤ) (t : Nodes P) → move_fault id action target (with_payloads f t) ≡ move_fault id action target t
  move_fault-payloads id action target t = λ i. first_fault (
      (not (holds-payloads id t i), NoNode)
      ∷ (not (holds-payloads target t i), NoNode)
      ∷ (int_eq id (pos 0), IsRoot)
      ∷ (is_beside_root action target, IsRoot)
      ∷ (is_inside action && synth-payloads target t i, NotGroup)
      ∷ (inside i, Inside)
      ∷ [])
    where
      inside : holds target (subtree id (with_payloads f t)) ≡ holds target (subtree id t)
      inside = ap (holds target) (subtree-payloads id t) ∙ holds-payloads target (subtree id t)

  pub attach_fault-payloads : (id : ℤ) (action : AddAction) (target : ℤ) (t d : Nodes P) → attach_fault id action target (with_payloads f t) (with_payloads f d) ≡ attach_fault id action target t d
  attach_fault-payloads id action target t d = λ i. first_fault (
      (share i, InUse)
      ∷ (not (has_top-payloads id d i), NoNode)
      ∷ (not (holds-payloads target t i), NoNode)
      ∷ (is_beside_root action target, IsRoot)
      ∷ (is_inside action && synth-payloads target t i, NotGroup)
      ∷ (nat_lt 4096 (count-payloads t i + size i), TooMany)
      ∷ [])
    where
      share : shares (last_top id (with_payloads f d)) (with_payloads f t) ≡ shares (last_top id d) t
      share = ap (λ l. shares l (with_payloads f t)) (last_top-payloads id d) ∙ shares-payloads (last_top id d) t

      size : count (last_top id (with_payloads f d)) ≡ count (last_top id d)
      size = ap count (last_top-payloads id d) ∙ count-payloads (last_top id d)
