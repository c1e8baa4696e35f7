-- What a change of the list makes of the attached and the detached nodes.
use Rattle.std.proofs.Common.{◌≡◌, ◌+◌, ◌<◌, ◌≤◌, ℤ, pos, Bool, true, false, nat_lt, [], ◌∷◌, Option, Some, None, refl, ap, ◌∙◌, arith}
use Rattle.std.specs.Prelude.{if◌then◌else◌}
use Rattle.std.specs.Ordering.{int_eq}
use Rattle.std.proofs.lemmas.Bool.{lt-ltb, le-ltb, false_from_ne_true}
use Rattle.std.proofs.lemmas.Bool.Decides.{Decides-int_eq}
use Rattle.sn_tree.specs.declared.node.AddAction.{AddAction}
use Rattle.sn_tree.specs.declared.node.TreeFault.{TreeFault}
use Rattle.sn_tree.specs.declared.node.TreeFault.TheVariants.{NoNode, NotGroup, IsRoot, TooMany}
use Rattle.sn_tree.specs.Trees.{Nodes, holds, count}
use Rattle.sn_tree.specs.Faults.{first_fault, spot_fault, insert_fault, detach_fault, is_missing, is_beside_root, is_in_synth}

-- faults

three : (a b c : Bool) (x : Option TreeFault) → first_fault ((a, NoNode) ∷ (b, IsRoot) ∷ (c, NotGroup) ∷ []) ≡ None → (if a then Some NoNode else if b then Some IsRoot else if c then Some NotGroup else x) ≡ x
three true b c x h = cc
three false true c x h = cc
three false false true x h = cc
three false false false x h = refl

pub insert_rest : {P : Type 0} (id : ℤ) (action : AddAction) (target : ℤ) (t : Nodes P) → holds id t ≡ false → spot_fault action target t ≡ None → insert_fault id action target t ≡ (if nat_lt 4096 (count t + 1) then Some TooMany else None)
insert_rest id action target t h s = rw h (three (is_missing target t) (is_beside_root action target) (is_in_synth action target t) (if nat_lt 4096 (count t + 1) then Some TooMany else None) s)

pub too_many : {P : Type 0} (id : ℤ) (action : AddAction) (target : ℤ) (t : Nodes P) → holds id t ≡ false → spot_fault action target t ≡ None → 4096 ≤ count t → insert_fault id action target t ≡ Some TooMany
too_many id action target t h s l = insert_rest id action target t h s ∙ ap (λ b. if b then Some TooMany else None) (lt-ltb 4096 (count t + 1) (omega arith))

pub no_fault : {P : Type 0} (id : ℤ) (action : AddAction) (target : ℤ) (t : Nodes P) → holds id t ≡ false → spot_fault action target t ≡ None → count t < 4096 → insert_fault id action target t ≡ None
no_fault id action target t h s l = insert_rest id action target t h s ∙ ap (λ b. if b then Some TooMany else None) (le-ltb 4096 (count t + 1) (omega arith))

pub not_there : {P : Type 0} (t : Nodes P) (id : ℤ) → holds id t ≡ false → detach_fault id t ≡ Some NoNode
not_there t id h = rw h refl

pub stays_root : {P : Type 0} (t : Nodes P) (id : ℤ) → holds id t ≡ true → id ≡ pos 0 → detach_fault id t ≡ Some IsRoot
stays_root t id h e = let z : int_eq id (pos 0) ≡ true = (Decides-int_eq id (pos 0)).1 e in rw (h, z) refl

pub can_go : {P : Type 0} (t : Nodes P) (id : ℤ) → holds id t ≡ true → (id ≡ pos 0 → ⊥) → detach_fault id t ≡ None
can_go t id h e = let z : int_eq id (pos 0) ≡ false = false_from_ne_true (int_eq id (pos 0)) (λ b. e ((Decides-int_eq id (pos 0)).0 b)) in rw (h, z) refl
