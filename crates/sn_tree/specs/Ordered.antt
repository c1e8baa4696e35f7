-- The nodes by the keys of their payloads, and what an open journal keeps.
use Rattle.std.specs.Prelude.{ℕ, ◌≤◌, List, Option, Some, None, Result, Ok, Err, refl}
use Rattle.std.specs.Coded.{Coded, code_by, coded×, coded_option}
use Rattle.sn_ports.specs.Limits.{most_nodes}
use Rattle.sn_forest.specs.Trees.{Trees, count}
use Rattle.sn_tree.specs.declared.node.TreeFault.{TreeFault}
use Rattle.sn_tree.specs.Arranged.{Arranged, arranged_code}
use Rattle.sn_tree.specs.Saving.{SavedNodes, saved_code}
use Rattle.sn_tree.specs.declared.item.Item.{Item}
use Rattle.sn_tree.specs.declared.node.Uninserted.{Uninserted}
use Rattle.sn_tree.specs.declared.node.Uninserted.TheVariants.{NoMemory as NoMemoryFor, Fault as FaultFor}
use Rattle.sn_tree.specs.declared.order.Refused.{Refused}
use Rattle.sn_tree.specs.declared.order.Refused.TheVariants.{NoMemory, Fault}
use Rattle.sn_tree.specs.Keyed.{front, sides}
use Rattle.sn_tree.specs.Undoing.{restored, IsUndoable}
use Rattle.sn_tree.specs.Journals.{Steps}

-- the nodes as they are, and what the open journal restores, if there is one
pub record Ordered : Type 0 where
  pub now : Arranged
  pub saved : Option SavedNodes

abbrev pub ordered_code : Coded Ordered
ordered_code = code_by (Arranged × Option SavedNodes) (coded× arranged_code (coded_option saved_code)) (λ o. (o.now, o.saved)) (λ p. record { now = p.0; saved = p.1 }) (λ _. refl)

-- what a journal restores if the nodes are these
abbrev pub saved_by : Trees Item → Option Steps → Option SavedNodes
saved_by trees None = None
saved_by trees (Some journal) = Some (record { nodes = sides (restored journal.steps trees); room = journal.room; made = journal.made })

abbrev pub ordered_by : Trees Item → Option Steps → Ordered
ordered_by trees journal = record { now = sides trees; saved = saved_by trees journal }

-- at most 4,096 nodes are attached
abbrev pub AreFew : Trees Item → Type 0
AreFew trees = count (front trees) ≤ most_nodes

-- each step of the journal can be undone
abbrev pub IsReady : Trees Item → Option Steps → Type 0
IsReady trees None = Unit {0}
IsReady trees (Some journal) = IsUndoable journal.steps trees × AreFew (restored journal.steps trees)

-- the nodes that undoing restores, and the keys of the payloads that it drops
abbrev pub restored_nodes : Arranged → Option SavedNodes → Arranged
restored_nodes now None = now
restored_nodes now (Some saved) = saved.nodes

abbrev pub restored_by : Ordered → Arranged
restored_by order = restored_nodes order.now order.saved

abbrev pub made_by : Option SavedNodes → Option (List ℕ)
made_by None = None
made_by (Some saved) = Some saved.made

-- the fault of a refusal; `NoMemory` is none, and comes last
abbrev pub fault_among : Refused → Option TreeFault
fault_among NoMemory = None
fault_among (Fault fault) = Some fault

abbrev pub refused_fault : {A : Type 0} → Result A Refused → Option TreeFault
refused_fault (Ok a) = None
refused_fault (Err refused) = fault_among refused

abbrev pub fault_in : {P : Type 0} → Uninserted P → Option TreeFault
fault_in (NoMemoryFor payload) = None
fault_in (FaultFor fault payload) = Some fault
