-- A new node in the place of another, which is taken out.
use Rattle.std.proofs.Common.{◌≡◌, ℕ, ℤ, pos, Bool, true, false, not, ◌||◌, List, [], ◌∷◌, Option, Some, None, sym, refl, ap, ◌∙◌, subst, ⊎_elim}
use Rattle.std.specs.Ordering.{int_eq}
use Rattle.std.proofs.lemmas.Bool.{cases_Bool}
use Rattle.slab.specs.Slab.{Slab, get, Updates}
use Rattle.sn_tree.specs.declared.node.NodeKind.{NodeKind}
use Rattle.sn_tree.specs.declared.node.Spot.{Spot}
use Rattle.sn_tree.specs.declared.node.AddAction.TheVariants.{Before}
use Rattle.sn_tree.specs.declared.node.TreeFault.{TreeFault}
use Rattle.sn_tree.specs.declared.node.TreeFault.TheVariants.{NoNode, InUse, IsRoot}
use Rattle.sn_tree.specs.Trees.{Nodes, none, node, holds, put, leaf, subtree}
use Rattle.sn_tree.specs.Faults.{first_fault, replace_fault}
use Rattle.sn_tree.specs.Arranged.{Arranged}
use Rattle.sn_tree.specs.Saving.{SavedNodes, HasSpare, spent, noted}
use Rattle.sn_tree.specs.Model.{NodeTree}
use Rattle.sn_tree.specs.Steps.{HasRoom, inserting, inserted, replacing, replaced}
use Rattle.sn_tree.specs.Kept.{IsKept, shown}
use Rattle.sn_tree.proofs.Following.{insert_gives, detach_gives, detach_keeps, spare}

-- ---- the target, after the new node stands before it

or_last : (a b : Bool) → (a || (false || (true || b))) ≡ true
or_last true b = refl
or_last false b = refl

module _ {P : Type 0} (id target : ℤ) (kind : NodeKind) (payload : P) where
  pub still_held : (t : Nodes P) → holds target t ≡ true → holds target (put Before target (leaf id kind payload) t) ≡ true
  still_held none h = h
  still_held (node label below after) h =
      ⊎_elim
      (λ (n : int_eq label.id target ≡ true). rw n (rw n (or_last (int_eq id target) (holds target below || holds target after))))
      (λ (n : int_eq label.id target ≡ false). ⊎_elim
      (λ (i : holds target below ≡ true). let r = still_held below i in rw (n, i) (rw (n, r) refl))
      (λ (i : holds target below ≡ false). let g : holds target after ≡ true = rw (n, i) at h in rw (n, i) (rw (n, i) (still_held after g)))
      (cases_Bool (holds target below)))
      (cases_Bool (int_eq label.id target))

  -- it holds the same nodes as before
  pub subtree-before : int_eq id target ≡ false → (t : Nodes P) → holds target t ≡ true → subtree target (put Before target (leaf id kind payload) t) ≡ subtree target t
  subtree-before other none h = refl
  subtree-before other (node label below after) h =
      ⊎_elim
      (λ (n : int_eq label.id target ≡ true). rw (n, other) (rw n refl))
      (λ (n : int_eq label.id target ≡ false). ⊎_elim
      (λ (i : holds target below ≡ true). let r = still_held below i in rw (n, i) (rw (n, r) (subtree-before other below i)))
      (λ (i : holds target below ≡ false). let g : holds target after ≡ true = rw (n, i) at h in rw (n, i) (rw (n, i) (subtree-before other after g)))
      (cases_Bool (holds target below)))
      (cases_Bool (int_eq label.id target))

-- ---- faults

-- the id is not in use, the target is there, and it is not the root
pub record CanReplace {P : Type 0} (id target : ℤ) (t : Nodes P) : Type 0 where
  pub free : holds id t ≡ false
  pub there : holds target t ≡ true
  pub below_root : int_eq target (pos 0) ≡ false

pub can_replace : {P : Type 0} (id target : ℤ) (t : Nodes P) → replace_fault id target t ≡ None → CanReplace id target t
can_replace id target t h = at (holds id t) (holds target t) (int_eq target (pos 0)) refl refl refl h
  where
    at : (used there root : Bool) → holds id t ≡ used → holds target t ≡ there → int_eq target (pos 0) ≡ root
        → first_fault ((used, InUse) ∷ (not there, NoNode) ∷ (root, IsRoot) ∷ []) ≡ None → CanReplace id target t
    at true there root a b c h = absurd cc
    at false false root a b c h = absurd cc
    at false true true a b c h = absurd cc
    at false true false a b c h = record { free = a; there = b; below_root = c }

pub no_fault : {fault : TreeFault} → None ≡ Some fault → ⊥
no_fault e = cc

-- ---- the tree

pub spare_noted : {P : Type 0} (root : P) (slots : List (Option P)) (nodes : Arranged) (saved saved1 : Option SavedNodes) (tree : NodeTree P) (key : ℕ) → shown root slots nodes saved ≡ tree → HasRoom tree.journal → saved1 ≡ noted key saved → HasSpare saved1
spare_noted root slots nodes saved saved1 tree key e h is = subst HasSpare (sym is) (there saved (spare root slots nodes saved tree e h))
  where
    there : (s : Option SavedNodes) → HasSpare s → HasSpare (noted key s)
    there None h = tt
    there (Some s) h = h

pub replace_gives : {P : Type 0} (root : P) (s0 s1 s2 : Slab P) (nodes nodes' : Arranged) (saved saved1 saved2 : Option SavedNodes) (tree : NodeTree P) (id : ℤ) (kind : NodeKind) (spot : Spot) (target : ℤ) (payload : P) (key made : ℕ)
    → IsKept s0.slots nodes saved → shown root s0.slots nodes saved ≡ tree → s1 ≡ record s0 { capacity = s1.capacity }
    → key ≡ s1.vacant_key → made ≡ s1.vacant_key → get s1 made ≡ None → Updates s1 s2 made (Some payload) → spot ≡ (record { action = Before; target = target })
    → nodes' ≡ replacing id kind spot.target (Some key) nodes → saved1 ≡ noted key saved → saved2 ≡ spent 1 saved1 → replace_fault id target nodes.attached ≡ None
    → IsKept s2.slots nodes' saved2 × (shown root s2.slots nodes' saved2 ≡ replaced id kind target payload tree)
replace_gives root s0 s1 s2 nodes nodes' saved saved1 saved2 tree id kind spot target payload key made f e kept v m vacant updates same nd noted_is spent_is allowed =
    let can : CanReplace id target nodes.attached = can_replace id target nodes.attached allowed in
    let mid : Arranged = inserting id kind Before target (Some key) nodes in
    let at : Spot = record { action = Before; target = target } in
    let put_in = insert_gives root s0 s1 s2 nodes mid saved saved1 tree id kind at at payload key made f e kept v m vacant updates refl refl noted_is can.below_root can.free can.there in
    let is : nodes' ≡ replacing id kind target (Some key) nodes = nd ∙ ap (λ (q : Spot). replacing id kind q.target (Some key) nodes) same in (
      detach_keeps root s2.slots mid nodes' saved1 saved2 (inserted id kind Before target payload tree) put_in.1 put_in.0 spent_is target is can.below_root,
      detach_gives root s2.slots mid nodes' saved1 saved2 (inserted id kind Before target payload tree) put_in.1 put_in.0 spent_is target is,
    )
