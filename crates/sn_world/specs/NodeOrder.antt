-- `/n_order`: nodes are put in a row.
use Rattle.std.specs.Prelude.{ℕ, ℤ, Bool, not, ◌&&◌, List, [], ◌∷◌, Option, Some, None, is_some, Result, Err}
use Rattle.std.specs.List.{filter, dedup}
use Rattle.std.specs.Ordering.{int_eq}
use Rattle.sn_osc.specs.Shape.{Argument, int, string, blob}
use Rattle.sn_reply.specs.declared.reason.Reason.{Reason}
use Rattle.sn_reply.specs.declared.reason.Reason.TheVariants as Reasons
use Rattle.sn_tree.specs.declared.node.AddAction.{AddAction}
use Rattle.sn_tree.specs.declared.node.AddAction.TheVariants.{After}
use Rattle.sn_tree.specs.Trees.{Nodes, holds}
use Rattle.sn_tree.specs.Faults.{is_missing, is_in_synth, is_beside_root}
use Rattle.sn_world.specs.declared.node_repetition.NodeMove.{NodeMove}
use Rattle.sn_world.specs.declared.ordering.NodePlace.{NodePlace}
use Rattle.sn_world.specs.declared.repetition.NodeId.{NodeId}
use Rattle.sn_world.specs.World.{Turn}
use Rattle.sn_world.specs.Freeing.{node_id}
use Rattle.sn_world.specs.Moving.{judge_move, act_move}
use Rattle.sn_world.specs.NewNodes.{add_action, action_for, replaces}
use Rattle.sn_world.specs.Rows.{first_of, singles, steps, unless}

-- ---- its arguments: action target id.., or no id

abbrev pub node_place : Argument → Argument → Option NodePlace
node_place (int action) (int target) = Some (record { action = action; target = target })
node_place (int action) (string s) = None
node_place (int action) (blob b) = None
node_place (string s) y = None
node_place (blob b) y = None

-- a place for the first node, and the nodes
pub record NodeOrder : Type 0 where
  pub place : NodePlace
  pub nodes : List NodeId

abbrev pub order_with : Option NodePlace → Option (List NodeId) → Option NodeOrder
order_with (Some place) (Some nodes) = Some (record { place = place; nodes = nodes })
order_with _ _ = None

abbrev pub node_order : List Argument → Option NodeOrder
node_order (action ∷ target ∷ ids) = order_with (node_place action target) (singles node_id ids)
node_order _ = None

-- ---- what is against the place, whichever nodes go there

-- an add action that replaces no node
abbrev pub is_place : ℤ → Bool
is_place action = is_some (add_action action) && not (replaces action)

abbrev pub place_refusal : {P : Type 0} → NodePlace → Nodes P → Option Reason
place_refusal place nodes = first_of (
    (not (is_place place.action), Reasons.AddAction)
    ∷ (is_missing place.target nodes, Reasons.NoSuchNode)
    ∷ (is_in_synth (action_for place.action) place.target nodes, Reasons.NotGroup)
    ∷ (is_beside_root (action_for place.action) place.target, Reasons.Root)
    ∷ [])

-- ---- the nodes that are moved, and where each goes

abbrev pub is_same : NodeId → NodeId → Bool
is_same a b = int_eq a.id b.id

-- An id of no node is ignored, and then one that is equal to the one before it.
abbrev pub listed : {P : Type 0} → List NodeId → Nodes P → List NodeId
listed ids nodes = dedup is_same (filter (λ n. holds n.id nodes) ids)

-- the first goes to a place, and each further one just after the one before it
abbrev pub in_a_row : AddAction → ℤ → List NodeId → List NodeMove
in_a_row action target [] = []
in_a_row action target (n ∷ ns) = record { action = action; id = n.id; target = target } ∷ in_a_row After n.id ns

abbrev pub moves_of : {P : Type 0} → NodeOrder → Nodes P → List NodeMove
moves_of order nodes = in_a_row (action_for order.place.action) order.place.target (listed order.nodes nodes)

-- Each move is judged in what the earlier ones left.
abbrev pub put_in_order : NodeOrder → Turn → Result Turn Reason
put_in_order order t = unless (place_refusal order.place t.world.nodes) (steps judge_move act_move (moves_of order t.world.nodes) t)

abbrev pub order_outcome : Option NodeOrder → Turn → Result Turn Reason
order_outcome None t = Err Reasons.Arguments
order_outcome (Some order) t = put_in_order order t

abbrev pub order_row : ℕ → List Argument → Turn → Result Turn Reason
order_row from xs t = order_outcome (node_order xs) t
