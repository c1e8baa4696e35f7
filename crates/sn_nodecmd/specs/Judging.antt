-- The reason against a new synth, by the tree's.
use Rattle.std.specs.Prelude.{ℤ, Bool, true, false, Option, Some}
use Rattle.std.specs.Option.{option_map}
use Rattle.sn_reply.specs.declared.reason.Reason.{Reason}
use Rattle.sn_reply.specs.declared.reason.Reason.TheVariants as Reasons
use Rattle.sn_tree.specs.declared.node.AddAction.{AddAction}
use Rattle.sn_tree.specs.declared.node.TreeFault.{TreeFault}
use Rattle.sn_tree.specs.declared.node.TreeFault.TheVariants as faults
use Rattle.sn_tree.specs.Trees.{Nodes}
use Rattle.sn_tree.specs.Faults.{insert_fault, replace_fault}
use Rattle.sn_nodecmd.specs.Faults.{reason_of}

-- An unknown add action comes after an id that is in use, and before all others.
abbrev pub reason_against_new : Bool → Option TreeFault → Option Reason
reason_against_new known (Some faults.InUse) = Some Reasons.IdInUse
reason_against_new false fault = Some Reasons.AddAction
reason_against_new true fault = option_map reason_of fault

-- the tree's fault against a new node, which takes the place of its target or is put beside others
abbrev pub fault_by : {P : Type 0} → Bool → ℤ → AddAction → ℤ → Nodes P → Option TreeFault
fault_by true id action target nodes = replace_fault id target nodes
fault_by false id action target nodes = insert_fault id action target nodes
