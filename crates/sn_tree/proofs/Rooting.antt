-- The root is a group, and all else lies below it.
use Rattle.std.proofs.Common.{◌≡◌, ◌≤◌, pos, ℤ, true, false, Some, None, sym, ap, ⊎_elim, arith}
use Rattle.std.specs.Ordering.{int_eq}
use Rattle.std.specs.Option.{option_map}
use Rattle.std.proofs.lemmas.Bool.{cases_Bool}
use Rattle.sn_tree.specs.declared.node.NodeKind.TheVariants.{Group}
use Rattle.sn_tree.specs.Trees.{Label, Nodes, none, node, holds, count, label_of, subtree}

-- nodes that are a group and those below it
pub record IsGroupOver {P : Type 0} (nodes : Nodes P) : Type 0 where
  pub label : Label P
  pub below : Nodes P
  pub is : nodes ≡ node label below none
  pub kind : label.kind ≡ Group

pub count_below : {P : Type 0} (id : ℤ) (t : Nodes P) → count (subtree id t) ≤ count t
count_below id none = omega arith
count_below id (node label below after) =
    ⊎_elim
    (λ (n : int_eq label.id id ≡ true). rw n (omega arith))
    (λ (n : int_eq label.id id ≡ false). ⊎_elim
    (λ (i : holds id below ≡ true). rw (n, i) (omega (arith, count_below id below)))
    (λ (i : holds id below ≡ false). rw (n, i) (omega (arith, count_below id after)))
    (cases_Bool (holds id below)))
    (cases_Bool (int_eq label.id id))

-- the laws `root_holds_all` and `root_is_a_group` tell so of the attached nodes
pub group_over : {P : Type 0} (nodes : Nodes P) → subtree (pos 0) nodes ≡ nodes → option_map (λ (l : Label P). l.kind) (label_of (pos 0) nodes) ≡ Some Group → IsGroupOver nodes
group_over none whole kind = let bad : None ≡ Some Group = kind in cc
group_over (node label below after) whole kind =
    ⊎_elim
    (λ (n : int_eq label.id (pos 0) ≡ true).
    let all : node label below none ≡ node label below after = rw n at whole in
    let some : Some label.kind ≡ Some Group = rw n at kind in
    let is_group : label.kind ≡ Group = cc in
    record { label = label; below = below; is = sym all; kind = is_group })
    (λ (n : int_eq label.id (pos 0) ≡ false). ⊎_elim
    (λ (i : holds (pos 0) below ≡ true). let all : subtree (pos 0) below ≡ node label below after = rw (n, i) at whole in absurd (omega (arith, ap count all, count_below (pos 0) below)))
    (λ (i : holds (pos 0) below ≡ false). let all : subtree (pos 0) after ≡ node label below after = rw (n, i) at whole in absurd (omega (arith, ap count all, count_below (pos 0) after)))
    (cases_Bool (holds (pos 0) below)))
    (cases_Bool (int_eq label.id (pos 0)))
