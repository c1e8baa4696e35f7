-- What the order's searches give, and what a step of it asks.
use Rattle.std.proofs.Common.{◌≡◌, ℕ, ◌+◌, ◌<◌, ◌≤◌, ℤ, pos, true, false, not, ◌||◌, nat_lt, [], ◌∷◌, Option, Some, None, refl, ap, sym, subst, ◌∙◌, ⊎_elim, arith}
use Rattle.std.specs.Prelude.{if◌then◌else◌}
use Rattle.std.specs.Ordering.{int_eq}
use Rattle.std.proofs.lemmas.Bool.{cases_lt, lt-ltb, or_parts}
use Rattle.sn_forest.specs.Trees.{Trees, none, tree, uses, count, last_key, subtree}
use Rattle.sn_forest.specs.Walking.{behind_tree}
use Rattle.sn_forest.specs.declared.place.Place.{Place}
use Rattle.sn_forest.specs.Places.{put}
use Rattle.sn_forest.specs.declared.place.Place.TheVariants.{Before as PlaceBefore, After}
use Rattle.sn_forest.proofs.Keys.{some_or_none}
use Rattle.sn_tree.specs.declared.node.AddAction.{AddAction}
use Rattle.sn_tree.specs.declared.node.AddAction.TheVariants.{Before}
use Rattle.sn_tree.specs.declared.node.NodeKind.{NodeKind}
use Rattle.sn_tree.specs.declared.node.TreeFault.{TreeFault}
use Rattle.sn_tree.specs.declared.node.TreeFault.TheVariants.{NoNode, InUse, IsRoot, NotGroup, TooMany}
use Rattle.sn_tree.specs.Trees.{Nodes, none as no_nodes, node, holds, label_of, shares, count as count_nodes}
use Rattle.sn_tree.specs.Faults.{attach_fault, detach_fault, insert_fault, is_beside_root, is_in_synth, is_missing, move_fault, replace_fault, set_run_fault}
use Rattle.sn_tree.specs.Order.{Key}
use Rattle.sn_tree.specs.Steps.{attaching, detaching, moving, replacing}
use Rattle.sn_tree.proofs.Attaching.{attach_few}
use Rattle.sn_tree.proofs.Following.{attach_apart, attach_beside, detach_root, insert_beside, insert_free, move_root, none_holds}
use Rattle.sn_tree.proofs.Replacing.{CanReplace, can_replace}
use Rattle.sn_tree.specs.declared.item.Item.{Item}
use Rattle.sn_tree.specs.Keyed.{labels, front, sides, named, names}
use Rattle.sn_tree.specs.Stored.{IsSound, IsSpot, IsAmong, IsMovable, IsAttachable}
use Rattle.sn_tree.specs.Ordered.{AreFew}
use Rattle.sn_tree.proofs.KeyedPaths.{is_held}
use Rattle.sn_tree.proofs.OrderLaws.{count-labels, spot_among}
use Rattle.sn_tree.proofs.OrderShifts.{Shifts, detach_any, attach_any, move_any, replace_shifts}
use Rattle.sn_tree.proofs.OrderGives.{spot_is_among}

module _ (t : Trees Item) (once : (j : ℕ) → uses j t ≤ 1) (h : IsSound t) (few : AreFew t) (id : ℤ) where
  pub detach_goes : (key end : ℕ) → detach_fault id (labels (front t)) ≡ None → 1 ≤ named id key (front t) → last_key None t ≡ Some end → Shifts t key (After end) (detaching id (sides t))
  detach_goes key end free u e = detach_any t id key end once h u (detach_root id (labels (front t)) free) e (omega (arith, few))

  pub move_goes : (action : AddAction) (target : ℤ) (key : ℕ) (place : Place) → move_fault id action target (labels (front t)) ≡ None → IsMovable t id action target key place → Shifts t key place (moving id action target (sides t))
  move_goes action target key place free m =
      let n : (int_eq id (pos 0) ≡ false) × (is_beside_root action target ≡ false) = move_root id action target (labels (front t)) free in
      move_any t id action target key place once h m n.0 n.1 few

  pub attach_goes : (action : AddAction) (target : ℤ) (key : ℕ) (place : Place) → attach_fault id action target (labels (front t)) (labels (behind_tree t)) ≡ None → IsAttachable t id action target key place
      → Shifts t key place (attaching id action target (sides t))
  attach_goes action target key place free m =
      attach_any t id action target key place once h m (attach_beside id action target (labels (front t)) (labels (behind_tree t)) free)
      (ap (λ n. shares n (labels (front t))) (sym m.node.last) ∙ attach_apart id action target (labels (front t)) (labels (behind_tree t)) free)
      (omega (
        arith,
        attach_few id action target (labels (front t)) (labels (behind_tree t)) free,
        ap (λ (n : Nodes Key). count_nodes n) m.node.last,
        count-labels (subtree key t),
        count-labels (front t),
      ))

-- an id that no node has
pub no_names : (id : ℤ) (t : Trees Item) → holds id (labels t) ≡ false → names id t ≡ 0
no_names id t f = ⊎_elim (λ (v : 1 ≤ names id t). absurd (let c : true ≡ false = sym (is_held id t v) ∙ f in cc)) (λ (v : names id t ≤ 0). omega (arith, v)) (some_or_none (names id t))

-- a flag is set of an attached node alone
pub run_missing : (t : Nodes Key) (id : ℤ) → holds id t ≡ false → set_run_fault id t ≡ Some NoNode
run_missing t id f = ap (λ b. let o : Option TreeFault = if not b then Some NoNode else None in o) f

pub run_free : (t : Nodes Key) (id : ℤ) → holds id t ≡ true → set_run_fault id t ≡ None
run_free t id f = ap (λ b. let o : Option TreeFault = if not b then Some NoNode else None in o) f

insert_few : (id : ℤ) (action : AddAction) (target : ℤ) (t : Nodes Key) → insert_fault id action target t ≡ None → count_nodes t + 1 ≤ 4096
insert_few id action target t h =
    let no : nat_lt 4096 (count_nodes t + 1) ≡ false =
    (none_holds ((holds id t, InUse) ∷ (is_missing target t, NoNode) ∷ (is_beside_root action target, IsRoot) ∷ (is_in_synth action target t, NotGroup) ∷ (nat_lt 4096 (count_nodes t + 1), TooMany) ∷ []) h).1.1.1.1.0 in
    ⊎_elim (λ (l : 4096 < count_nodes t + 1). let bad : true ≡ false = sym (lt-ltb 4096 (count_nodes t + 1) l) ∙ no in cc) (λ (l : count_nodes t + 1 ≤ 4096). l) (cases_lt 4096 (count_nodes t + 1))

-- what a new node asks
pub record Comes (t : Trees Item) (id : ℤ) (action : AddAction) (target : ℤ) (place : Place) : Type 0 where
  pub among : IsAmong t place
  pub absent : names id (front t) ≡ 0
  pub few : count (front t) + 1 ≤ 4096
  pub beside : is_beside_root action target ≡ false

pub insert_comes : (t : Trees Item) → ((j : ℕ) → uses j t ≤ 1) → IsSound t → (id : ℤ) (action : AddAction) (target : ℤ) (place : Place) → insert_fault id action target (labels (front t)) ≡ None → IsSpot t action target place → Comes t id action target place
insert_comes t once h id action target place free s = record {
  among = spot_is_among t action target place once h s (insert_beside id action target (labels (front t)) free);
  absent = no_names id (front t) (insert_free id action target (labels (front t)) free);
  few = omega (arith, insert_few id action target (labels (front t)) free, count-labels (front t));
  beside = insert_beside id action target (labels (front t)) free;
}

-- a new node goes in before the one whose place it takes
pub replace_comes : (t : Trees Item) → ((j : ℕ) → uses j t ≤ 1) → IsSound t → (id target : ℤ) (key : ℕ) → replace_fault id target (labels (front t)) ≡ None → 1 ≤ named target key (front t) → IsAmong t (PlaceBefore key) × (names id (front t) ≡ 0)
replace_comes none once h id target key free u = absurd (omega (arith, u))
replace_comes (tree r root below after) once h id target key free u =
    let can : CanReplace id target (labels (tree r root below none)) = can_replace id target (labels (tree r root below none)) free in
    (spot_among r root below after once h Before target key u can.below_root, no_names id (tree r root below none) can.free)

-- and that one goes out then
pub replace_goes : (t : Trees Item) → ((j : ℕ) → uses j t ≤ 1) → IsSound t → AreFew t → (id : ℤ) (kind : NodeKind) (target : ℤ) (key : ℕ) (payload : Option ℕ) → replace_fault id target (labels (front t)) ≡ None → 1 ≤ named target key (front t)
    → (k : ℕ) → uses k t ≡ 0 → (mid : Trees Item) → mid ≡ put (PlaceBefore key) (tree k (record { id = id; kind = kind; running = true; key = payload }) none none) t → (end : ℕ) → last_key None mid ≡ Some end
    → Shifts mid key (After end) (replacing id kind target payload (sides t))
replace_goes none once h few id kind target key payload free u k fresh mid e end f = absurd (omega (arith, u))
replace_goes (tree r root below after) once h few id kind target key payload free u k fresh mid e end f =
    let can : CanReplace id target (labels (tree r root below none)) = can_replace id target (labels (tree r root below none)) free in
    subst (λ m. Shifts m key (After end) (replacing id kind target payload (sides (tree r root below after)))) (sym e)
    (replace_shifts r root below after once h target key u can.below_root k fresh id kind payload (no_names id (tree r root below none) can.free) end (sym (ap (last_key None) e) ∙ f) few)

-- an id that no node has has no label
pub no_label : (t : Nodes Key) (id : ℤ) → holds id t ≡ false → label_of id t ≡ None
no_label no_nodes id h = refl
no_label (node label below after) id h =
    let d = or_parts (int_eq label.id id) (holds id below || holds id after) h in
    let b = or_parts (holds id below) (holds id after) d.1 in
    rw (d.0, b.0) (no_label after id b.1)
