-- What the nodes by their keys say of the tree that they stand for.
use Rattle.std.proofs.Common.{◌≡◌, ℤ, negsuc, List, Option, sym, ap, ◌∙◌}
use Rattle.std.specs.Option.{option_map}
use Rattle.sn_tree.specs.declared.node.AddAction.{AddAction}
use Rattle.sn_tree.specs.Trees.{Label, label_of, children, count, ids, next_after, first_of, view_of}
use Rattle.sn_tree.specs.Views.{views_below}
use Rattle.sn_tree.specs.Faults.{insert_fault, replace_fault, detach_fault, set_run_fault, move_fault, attach_fault}
use Rattle.sn_tree.specs.Order.{Key}
use Rattle.sn_tree.specs.Arranged.{Arranged}
use Rattle.sn_tree.specs.Saving.{SavedNodes}
use Rattle.sn_tree.specs.Model.{NodeTree}
use Rattle.sn_tree.specs.Kept.{payload_of, shown}
use Rattle.sn_tree.proofs.PayloadLaws.{views-payloads, view-payloads, count-payloads, ids-payloads, children-payloads, first-payloads, insert_fault-payloads, replace_fault-payloads, detach_fault-payloads, set_run_fault-payloads, move_fault-payloads, attach_fault-payloads}
use Rattle.sn_tree.proofs.Keeping.{payload_is}

module _ {P : Type 0} (root : P) (slots : List (Option P)) (nodes : Arranged) (saved : Option SavedNodes) (tree : NodeTree P) (e : shown root slots nodes saved ≡ tree) where
  pub first_shown : (id : ℤ) → first_of (children id nodes.attached) ≡ first_of (children id tree.attached)
  first_shown id =
      sym (ap first_of (children-payloads (payload_of root slots) id nodes.attached) ∙ first-payloads (payload_of root slots) (children id nodes.attached))
      ∙ ap (λ (t : NodeTree P). first_of (children id t.attached)) e

  pub next_shown : (id : ℤ) → next_after id (ids nodes.attached) ≡ next_after id (ids tree.attached)
  next_shown id =
      sym (ap (next_after id) (ids-payloads (payload_of root slots) nodes.attached)) ∙ ap (λ (t : NodeTree P). next_after id (ids t.attached)) e

  pub view_shown : (id : ℤ) → view_of id nodes.attached ≡ view_of id tree.attached
  view_shown id = sym (view-payloads (payload_of root slots) (negsuc 0) (negsuc 0) id nodes.attached) ∙ ap (λ (t : NodeTree P). view_of id t.attached) e

  pub views_shown : (id : ℤ) → views_below id nodes.attached ≡ views_below id tree.attached
  views_shown id = sym (views-payloads (payload_of root slots) (negsuc 0) (negsuc 0) id nodes.attached) ∙ ap (λ (t : NodeTree P). views_below id t.attached) e

  pub count_shown : count nodes.attached ≡ count tree.attached
  count_shown = sym (count-payloads (payload_of root slots) nodes.attached) ∙ ap (λ (t : NodeTree P). count t.attached) e

  pub insert_fault_shown : (id : ℤ) (action : AddAction) (target : ℤ) → insert_fault id action target nodes.attached ≡ insert_fault id action target tree.attached
  insert_fault_shown id action target =
      sym (insert_fault-payloads (payload_of root slots) id action target nodes.attached) ∙ ap (λ (t : NodeTree P). insert_fault id action target t.attached) e

  pub replace_fault_shown : (id target : ℤ) → replace_fault id target nodes.attached ≡ replace_fault id target tree.attached
  replace_fault_shown id target =
      sym (replace_fault-payloads (payload_of root slots) id target nodes.attached) ∙ ap (λ (t : NodeTree P). replace_fault id target t.attached) e

  pub detach_fault_shown : (id : ℤ) → detach_fault id nodes.attached ≡ detach_fault id tree.attached
  detach_fault_shown id = sym (detach_fault-payloads (payload_of root slots) id nodes.attached) ∙ ap (λ (t : NodeTree P). detach_fault id t.attached) e

  pub move_fault_shown : (id : ℤ) (action : AddAction) (target : ℤ) → move_fault id action target nodes.attached ≡ move_fault id action target tree.attached
  move_fault_shown id action target =
      sym (move_fault-payloads (payload_of root slots) id action target nodes.attached) ∙ ap (λ (t : NodeTree P). move_fault id action target t.attached) e

  pub attach_fault_shown : (id : ℤ) (action : AddAction) (target : ℤ) → attach_fault id action target nodes.attached nodes.detached ≡ attach_fault id action target tree.attached tree.detached
  attach_fault_shown id action target =
      sym (attach_fault-payloads (payload_of root slots) id action target nodes.attached nodes.detached) ∙ ap (λ (t : NodeTree P). attach_fault id action target t.attached t.detached) e

  pub payload_shown : (id : ℤ) → option_map (payload_of root slots) (option_map (λ (l : Label Key). l.payload) (label_of id nodes.attached)) ≡ option_map (λ (l : Label P). l.payload) (label_of id tree.attached)
  payload_shown id =
      sym (payload_is (payload_of root slots) id nodes.attached) ∙ ap (λ (t : NodeTree P). option_map (λ (l : Label P). l.payload) (label_of id t.attached)) e

pub set_run_fault_shown : {P : Type 0} (root : P) (slots : List (Option P)) (nodes : Arranged) (saved : Option SavedNodes) (tree : NodeTree P) → shown root slots nodes saved ≡ tree → (id : ℤ) → set_run_fault id nodes.attached ≡ set_run_fault id tree.attached
set_run_fault_shown root slots nodes saved tree e id = sym (set_run_fault-payloads (payload_of root slots) id nodes.attached) ∙ ap (λ (t : NodeTree _). set_run_fault id t.attached) e
