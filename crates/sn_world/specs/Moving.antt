-- Commands that move nodes.
use Rattle.std.specs.Prelude.{ℕ, ℤ, pos, List, [], ◌∷◌, Option, Some, None, Result}
use Rattle.std.specs.Ordering.{int_eq}
use Rattle.sn_osc.specs.Shape.{Argument, int, string, blob}
use Rattle.sn_reply.specs.declared.reason.Reason.{Reason}
use Rattle.sn_reply.specs.declared.reason.Reason.TheVariants as Reasons
use Rattle.sn_tree.specs.declared.node.AddAction.{AddAction}
use Rattle.sn_tree.specs.declared.node.AddAction.TheVariants.{Head, Tail, Before, After}
use Rattle.sn_tree.specs.Trees.{Nodes, put, subtree, without, holds}
use Rattle.sn_tree.specs.Faults.{is_missing, is_in_synth, is_beside_root}
use Rattle.sn_world.specs.declared.node_repetition.NodeMove.{NodeMove}
use Rattle.sn_world.specs.declared.notices.NodeEvent.TheVariants.{Moved}
use Rattle.sn_world.specs.Notices.{told}
use Rattle.sn_world.specs.World.{World, Turn}
use Rattle.sn_world.specs.Rows.{first_of, row, pairs, some_of}

-- ---- a node that goes to the head or tail of a target, or just before or after it

-- the first reason against it
abbrev pub move_refusal : {P : Type 0} → NodeMove → Nodes P → Option Reason
move_refusal m nodes = first_of (
    (is_missing m.id nodes, Reasons.NoSuchNode)
    ∷ (is_missing m.target nodes, Reasons.NoSuchNode)
    ∷ (int_eq m.id (pos 0), Reasons.Root)
    ∷ (is_beside_root m.action m.target, Reasons.Root)
    ∷ (is_in_synth m.action m.target nodes, Reasons.NotGroup)
    ∷ (holds m.target (subtree m.id nodes), Reasons.InsideItself)
    ∷ [])

abbrev pub judge_move : World → NodeMove → Option Reason
judge_move w m = move_refusal m w.nodes

-- the node is taken out with all below it, and put at its new place
abbrev pub with_move : NodeMove → World → World
with_move m w = record w { nodes = put m.action m.target (subtree m.id w.nodes) (without m.id w.nodes) }

-- Clients are told of the place after the move, even if the node stays in its place.
abbrev pub act_move : NodeMove → Turn → Turn
act_move m t = told Moved m.id (record t { world = with_move m t.world })

-- ---- `/n_before`, `/n_after` (id target).. and `/g_head`, `/g_tail` (group id)..

-- which of two nodes is moved
abbrev pub node_move : AddAction → ℤ → ℤ → NodeMove
node_move Before id target = record { action = Before; id = id; target = target }
node_move After id target = record { action = After; id = id; target = target }
node_move Head group id = record { action = Head; id = id; target = group }
node_move Tail group id = record { action = Tail; id = id; target = group }

abbrev pub move_from : AddAction → Argument → Argument → Option NodeMove
move_from action (int x) (int y) = Some (node_move action x y)
move_from action (int x) (string s) = None
move_from action (int x) (blob b) = None
move_from action (string s) y = None
move_from action (blob b) y = None

abbrev pub move_row : AddAction → ℕ → List Argument → Turn → Result Turn Reason
move_row action from xs = row judge_move act_move (some_of (pairs (move_from action) xs))
