-- Commands that free nodes.
use Rattle.std.specs.Prelude.{ℕ, ℤ, pos, List, [], ◌∷◌, Option, Some, None, Result}
use Rattle.std.specs.Ordering.{int_eq}
use Rattle.sn_osc.specs.Shape.{Argument, int, string, blob}
use Rattle.sn_reply.specs.declared.reason.Reason.{Reason}
use Rattle.sn_reply.specs.declared.reason.Reason.TheVariants as Reasons
use Rattle.sn_tree.specs.declared.node.NodeView.{NodeView}
use Rattle.sn_tree.specs.Trees.{Nodes, without}
use Rattle.sn_tree.specs.Views.{views_below}
use Rattle.sn_tree.specs.Faults.{is_missing}
use Rattle.sn_world.specs.declared.notices.NodeEvent.TheVariants.{Ended}
use Rattle.sn_world.specs.declared.repetition.NodeId.{NodeId}
use Rattle.sn_world.specs.Notices.{event_message, notified}
use Rattle.sn_world.specs.World.{World, Turn}
use Rattle.sn_world.specs.Rows.{first_of, row, singles, some_of}

-- each of these nodes ends, at the place where it stands
abbrev pub told_ends : List (ℤ × NodeView) → Turn → Turn
told_ends [] t = t
told_ends (v ∷ vs) t = told_ends vs (notified (event_message Ended v.0 v.1) t)

-- a node is freed with all below it, and each of them is told, at the place where it stood before
abbrev pub freed : ℤ → Turn → Turn
freed id t =
    let told : Turn = told_ends (views_below id t.world.nodes) t in
    record told { world = record t.world { nodes = without id t.world.nodes } }

-- ---- `/n_free` id..

abbrev pub node_id : Argument → Option NodeId
node_id (int id) = Some (record { id = id })
node_id (string s) = None
node_id (blob b) = None

abbrev pub free_refusal : {P : Type 0} → ℤ → Nodes P → Option Reason
free_refusal id nodes = first_of (
    (is_missing id nodes, Reasons.NoSuchNode)
    ∷ (int_eq id (pos 0), Reasons.Root)
    ∷ [])

abbrev pub judge_free : World → NodeId → Option Reason
judge_free w r = free_refusal r.id w.nodes

abbrev pub act_free : NodeId → Turn → Turn
act_free r t = freed r.id t

abbrev pub free_row : ℕ → List Argument → Turn → Result Turn Reason
free_row from xs = row judge_free act_free (some_of (singles node_id xs))
