-- When a change is refused, and why.
use Rattle.std.specs.Prelude.{◌+◌, ℤ, pos, Bool, true, false, not, ◌&&◌, if◌then◌else◌, nat_lt, List, [], ◌∷◌, Option, Some, None, Result, Ok, Err}
use Rattle.std.specs.Ordering.{int_eq}
use Rattle.sn_ports.specs.Limits.{most_nodes}
use Rattle.sn_tree.specs.declared.node.NodeKind.{NodeKind}
use Rattle.sn_tree.specs.declared.node.NodeKind.TheVariants.{Synth, Group, Parallel}
use Rattle.sn_tree.specs.declared.node.AddAction.{AddAction}
use Rattle.sn_tree.specs.declared.node.AddAction.TheVariants.{Head, Tail, Before, After}
use Rattle.sn_tree.specs.declared.node.TreeFault.{TreeFault}
use Rattle.sn_tree.specs.declared.node.TreeFault.TheVariants.{NoNode, InUse, NotGroup, IsRoot, Inside, TooMany}
use Rattle.sn_tree.specs.declared.node.Uninserted.{Uninserted}
use Rattle.sn_tree.specs.declared.node.Uninserted.TheVariants.{NoMemory, Fault}
use Rattle.sn_tree.specs.Trees.{Label, Nodes, holds, label_of, count, subtree, has_top, last_top, shares}

-- the first fault whose test holds
abbrev pub first_fault : List (Bool × TreeFault) → Option TreeFault
first_fault [] = None
first_fault (t ∷ ts) = if t.0 then Some t.1 else first_fault ts

-- whether a node at such a spot is a child of the target
abbrev pub is_inside : AddAction → Bool
is_inside Head = true
is_inside Tail = true
is_inside Before = false
is_inside After = false

abbrev pub is_synth : NodeKind → Bool
is_synth Synth = true
is_synth Group = false
is_synth Parallel = false

-- beside the root
abbrev pub is_beside_root : AddAction → ℤ → Bool
is_beside_root action target = not (is_inside action) && int_eq target (pos 0)

module _ {P : Type 0} where
  abbrev pub labels_synth : Option (Label P) → Bool
  labels_synth None = false
  labels_synth (Some label) = is_synth label.kind

  -- the target is not attached
  abbrev pub is_missing : ℤ → Nodes P → Bool
  is_missing target nodes = not (holds target nodes)

  -- inside what is no group
  abbrev pub is_in_synth : AddAction → ℤ → Nodes P → Bool
  is_in_synth action target nodes = is_inside action && labels_synth (label_of target nodes)

  -- the first fault of a spot
  abbrev pub spot_fault : AddAction → ℤ → Nodes P → Option TreeFault
  spot_fault action target nodes = first_fault (
      (is_missing target nodes, NoNode)
      ∷ (is_beside_root action target, IsRoot)
      ∷ (is_in_synth action target nodes, NotGroup)
      ∷ [])

  abbrev pub insert_fault : ℤ → AddAction → ℤ → Nodes P → Option TreeFault
  insert_fault id action target nodes = first_fault (
      (holds id nodes, InUse)
      ∷ (is_missing target nodes, NoNode)
      ∷ (is_beside_root action target, IsRoot)
      ∷ (is_in_synth action target nodes, NotGroup)
      ∷ (nat_lt most_nodes (count nodes + 1), TooMany)
      ∷ [])

  -- The target gives its place to the new node, so there is always room.
  abbrev pub replace_fault : ℤ → ℤ → Nodes P → Option TreeFault
  replace_fault id target nodes = first_fault (
      (holds id nodes, InUse)
      ∷ (is_missing target nodes, NoNode)
      ∷ (int_eq target (pos 0), IsRoot)
      ∷ [])

  abbrev pub detach_fault : ℤ → Nodes P → Option TreeFault
  detach_fault id nodes = first_fault (
      (is_missing id nodes, NoNode)
      ∷ (int_eq id (pos 0), IsRoot)
      ∷ [])

  abbrev pub set_run_fault : ℤ → Nodes P → Option TreeFault
  set_run_fault id nodes = first_fault ((is_missing id nodes, NoNode) ∷ [])

  abbrev pub move_fault : ℤ → AddAction → ℤ → Nodes P → Option TreeFault
  move_fault id action target nodes = first_fault (
      (is_missing id nodes, NoNode)
      ∷ (is_missing target nodes, NoNode)
      ∷ (int_eq id (pos 0), IsRoot)
      ∷ (is_beside_root action target, IsRoot)
      ∷ (is_in_synth action target nodes, NotGroup)
      ∷ (holds target (subtree id nodes), Inside)
      ∷ [])

  -- of the subtree with this top that was detached last
  abbrev pub attach_fault : ℤ → AddAction → ℤ → Nodes P → Nodes P → Option TreeFault
  attach_fault id action target attached detached = first_fault (
      (shares (last_top id detached) attached, InUse)
      ∷ (not (has_top id detached), NoNode)
      ∷ (is_missing target attached, NoNode)
      ∷ (is_beside_root action target, IsRoot)
      ∷ (is_in_synth action target attached, NotGroup)
      ∷ (nat_lt most_nodes (count attached + count (last_top id detached)), TooMany)
      ∷ [])

-- the fault of an answer, if it is one
abbrev pub fault_of : {A : Type 0} → Result A TreeFault → Option TreeFault
fault_of (Ok a) = None
fault_of (Err fault) = Some fault

-- the fault of a refused insert; `NoMemory` is none, and comes last
abbrev pub insert_fault_of : {A P : Type 0} → Result A (Uninserted P) → Option TreeFault
insert_fault_of (Ok a) = None
insert_fault_of (Err (NoMemory payload)) = None
insert_fault_of (Err (Fault fault payload)) = Some fault

-- the payload that comes back
abbrev pub returned : {P : Type 0} → Uninserted P → P
returned (NoMemory payload) = payload
returned (Fault fault payload) = payload
