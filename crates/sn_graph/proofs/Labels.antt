-- A node by its id: the first, one below it, or one after it.
use Rattle.std.proofs.Common.{◌≡◌, ◌∙◌, ℤ, true, false, Option, Some, None, ap, if◌then◌else◌}
use Rattle.std.specs.Option.{option_map}
use Rattle.std.specs.Ordering.{int_eq}
use Rattle.std.proofs.lemmas.Bool.{cond-true, cond-false}
use Rattle.sn_tree.specs.declared.node.NodeKind.{NodeKind}
use Rattle.sn_tree.specs.Trees.{Label, Nodes, none, node, children, holds, label_of, subtree}
use Rattle.sn_world.specs.declared.stage.Held.{Held}

abbrev pub kind_at : ℤ → Nodes Held → Option NodeKind
kind_at id t = option_map (λ l. l.kind) (label_of id t)

module _ (id : ℤ) (label : Label Held) (below after : Nodes Held) where
  pub kind_here : int_eq label.id id ≡ true → kind_at id (node label below after) ≡ Some label.kind
  kind_here e = ap (λ o. option_map (λ (l : Label Held). l.kind) o) (cond-true (int_eq label.id id) (Some label) (if holds id below then label_of id below else label_of id after) e)

  pub kind_below : int_eq label.id id ≡ false → holds id below ≡ true → kind_at id (node label below after) ≡ kind_at id below
  kind_below n h = ap (λ o. option_map (λ (l : Label Held). l.kind) o) (cond-false (int_eq label.id id) (Some label) (if holds id below then label_of id below else label_of id after) n ∙ cond-true (holds id below) (label_of id below) (label_of id after) h)

  pub kind_after : int_eq label.id id ≡ false → holds id below ≡ false → kind_at id (node label below after) ≡ kind_at id after
  kind_after n h = ap (λ o. option_map (λ (l : Label Held). l.kind) o) (cond-false (int_eq label.id id) (Some label) (if holds id below then label_of id below else label_of id after) n ∙ cond-false (holds id below) (label_of id below) (label_of id after) h)

  pub children_here : int_eq label.id id ≡ true → children id (node label below after) ≡ below
  children_here e = cond-true (int_eq label.id id) below (if holds id below then children id below else children id after) e

  pub children_below : int_eq label.id id ≡ false → holds id below ≡ true → children id (node label below after) ≡ children id below
  children_below n h = cond-false (int_eq label.id id) below (if holds id below then children id below else children id after) n ∙ cond-true (holds id below) (children id below) (children id after) h

  pub children_after : int_eq label.id id ≡ false → holds id below ≡ false → children id (node label below after) ≡ children id after
  children_after n h = cond-false (int_eq label.id id) below (if holds id below then children id below else children id after) n ∙ cond-false (holds id below) (children id below) (children id after) h

  pub subtree_here : int_eq label.id id ≡ true → subtree id (node label below after) ≡ node label below none
  subtree_here e = cond-true (int_eq label.id id) (node label below none) (if holds id below then subtree id below else subtree id after) e

  pub subtree_below : int_eq label.id id ≡ false → holds id below ≡ true → subtree id (node label below after) ≡ subtree id below
  subtree_below n h = cond-false (int_eq label.id id) (node label below none) (if holds id below then subtree id below else subtree id after) n ∙ cond-true (holds id below) (subtree id below) (subtree id after) h

  pub subtree_after : int_eq label.id id ≡ false → holds id below ≡ false → subtree id (node label below after) ≡ subtree id after
  subtree_after n h = cond-false (int_eq label.id id) (node label below none) (if holds id below then subtree id below else subtree id after) n ∙ cond-false (holds id below) (subtree id below) (subtree id after) h

pub not_some : (k : NodeKind) → None ≡ Some k → ⊥
not_some k e = cc

pub some_is : (a b : NodeKind) → Some a ≡ Some b → a ≡ b
some_is a b e = cc
