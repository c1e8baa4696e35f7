-- A subtree put in elsewhere.
use Rattle.std.proofs.Common.{◌≡◌, ℤ, pos, Bool, true, false, ◌||◌, Some, None, refl, ap, ◌∙◌, ⊎_elim}
use Rattle.std.specs.Prelude.{if◌then◌else◌}
use Rattle.std.specs.Ordering.{int_eq}
use Rattle.std.proofs.lemmas.Bool.{cases_Bool, or_parts}
use Rattle.sn_tree.specs.declared.node.AddAction.{AddAction}
use Rattle.sn_tree.specs.declared.node.TreeFault.{TreeFault}
use Rattle.sn_tree.specs.declared.node.TreeFault.TheVariants.{NoNode, NotGroup, IsRoot, Inside}
use Rattle.sn_tree.specs.Trees.{Nodes, none, node, holds, subtree, without, label_of}
use Rattle.sn_tree.specs.Faults.{spot_fault, move_fault, is_beside_root, is_in_synth}

-- what a node's target is like in the rest

pub record SameIn {P : Type 0} (target : ℤ) (s t : Nodes P) : Type 0 where
  pub held : holds target s ≡ holds target t
  pub labels : label_of target s ≡ label_of target t

pub kept_in : {P : Type 0} (id target : ℤ) (t : Nodes P) → holds target (subtree id t) ≡ false → SameIn target (without id t) t
kept_in id target none h = record { held = refl; labels = refl }
kept_in id target (node label below after) h =
    ⊎_elim
    (λ (n : int_eq label.id id ≡ true).
    let all : (int_eq label.id target || (holds target below || false)) ≡ false = rw n at h in
    let d = or_parts (int_eq label.id target) (holds target below || false) all in
    let e = or_parts (holds target below) false d.1 in
    rw n (record { held = rw (d.0, e.0) refl; labels = rw (d.0, e.0) refl }))
    (λ (n : int_eq label.id id ≡ false). ⊎_elim
    (λ (i : holds id below ≡ true).
    let k : holds target (subtree id below) ≡ false = rw (n, i) at h in
    let r : SameIn target (without id below) below = kept_in id target below k in
    rw (n, i) (record {
      held = λ j. int_eq label.id target || (r.held j || holds target after);
      labels = λ j. if int_eq label.id target then Some label else if r.held j then r.labels j else label_of target after;
    }))
    (λ (i : holds id below ≡ false).
    let k : holds target (subtree id after) ≡ false = rw (n, i) at h in
    let r : SameIn target (without id after) after = kept_in id target after k in
    rw (n, i) (record {
      held = λ j. int_eq label.id target || (holds target below || r.held j);
      labels = λ j. if int_eq label.id target then Some label else if holds target below then label_of target below else r.labels j;
    }))
    (cases_Bool (holds id below)))
    (cases_Bool (int_eq label.id id))

-- faults of a move

module _ (action : AddAction) (target : ℤ) where
  spot_first : (d e f : Bool) (x : TreeFault) → (if d then Some IsRoot else if e then Some NotGroup else None) ≡ Some x → (if d then Some IsRoot else if e then Some NotGroup else if f then Some Inside else None) ≡ Some x
  spot_first true e f x h = h
  spot_first false true f x h = h
  spot_first false false f x h = cc

  spot_free : (d e f : Bool) → (if d then Some IsRoot else if e then Some NotGroup else None) ≡ None → (if d then Some IsRoot else if e then Some NotGroup else if f then Some Inside else None) ≡ (if f then Some Inside else None)
  spot_free true e f h = cc
  spot_free false true f h = cc
  spot_free false false f h = refl

  module _ {P : Type 0} (id : ℤ) (t : Nodes P) where
    pub no_node : holds id t ≡ false → move_fault id action target t ≡ Some NoNode
    no_node h = rw h refl

    pub no_target : holds id t ≡ true → holds target t ≡ false → move_fault id action target t ≡ Some NoNode
    no_target h k = rw (h, k) refl

    pub stays_root : holds id t ≡ true → holds target t ≡ true → int_eq id (pos 0) ≡ true → move_fault id action target t ≡ Some IsRoot
    stays_root h k z = rw (h, k, z) refl

    pub spot_refused : (x : TreeFault) → holds id t ≡ true → holds target t ≡ true → int_eq id (pos 0) ≡ false → spot_fault action target t ≡ Some x → move_fault id action target t ≡ Some x
    spot_refused x h k z s =
        let q : (if is_beside_root action target then Some IsRoot else if is_in_synth action target t then Some NotGroup else None) ≡ Some x = rw k at s in
        rw (h, k, z) (spot_first (is_beside_root action target) (is_in_synth action target t) (holds target (subtree id t)) x q)

    spot_left : holds id t ≡ true → holds target t ≡ true → int_eq id (pos 0) ≡ false → spot_fault action target t ≡ None → move_fault id action target t ≡ (if holds target (subtree id t) then Some Inside else None)
    spot_left h k z s =
        let q : (if is_beside_root action target then Some IsRoot else if is_in_synth action target t then Some NotGroup else None) ≡ None = rw k at s in
        rw (h, k, z) (spot_free (is_beside_root action target) (is_in_synth action target t) (holds target (subtree id t)) q)

    pub inside_itself : holds id t ≡ true → holds target t ≡ true → int_eq id (pos 0) ≡ false → spot_fault action target t ≡ None → holds target (subtree id t) ≡ true → move_fault id action target t ≡ Some Inside
    inside_itself h k z s i = spot_left h k z s ∙ ap (λ b. if b then Some Inside else None) i

    pub can_move : holds id t ≡ true → holds target t ≡ true → int_eq id (pos 0) ≡ false → spot_fault action target t ≡ None → holds target (subtree id t) ≡ false → move_fault id action target t ≡ None
    can_move h k z s i = spot_left h k z s ∙ ap (λ b. if b then Some Inside else None) i
