-- What commands that make nodes have in common, and those that make groups.
use Rattle.std.specs.Prelude.{ℕ, ◌+◌, ℤ, pos, negsuc, Bool, true, false, not, if◌then◌else◌, nat_lt, List, [], ◌∷◌, Option, Some, None, is_some, unwrap_or, Result}
use Rattle.std.specs.Ordering.{int_eq}
use Rattle.sn_ports.specs.Limits.{most_nodes}
use Rattle.sn_osc.specs.Shape.{Argument, int, string, blob}
use Rattle.sn_reply.specs.declared.reason.Reason.{Reason}
use Rattle.sn_reply.specs.declared.reason.Reason.TheVariants as Reasons
use Rattle.sn_tree.specs.declared.node.NodeKind.{NodeKind}
use Rattle.sn_tree.specs.declared.node.NodeKind.TheVariants as kinds
use Rattle.sn_tree.specs.declared.node.AddAction.{AddAction}
use Rattle.sn_tree.specs.declared.node.AddAction.TheVariants.{Head, Tail, Before, After}
use Rattle.sn_tree.specs.declared.node.NodeView.{NodeView}
use Rattle.sn_tree.specs.Trees.{Nodes, none, put, leaf, subtree, without, holds, count}
use Rattle.sn_tree.specs.Views.{views_below}
use Rattle.sn_tree.specs.Faults.{is_missing, is_in_synth, is_beside_root}
use Rattle.sn_world.specs.declared.notices.NodeEvent.TheVariants.{Went}
use Rattle.sn_world.specs.declared.repetition.NewGroup.{NewGroup}
use Rattle.sn_world.specs.declared.repetition.NewNode.{NewNode}
use Rattle.sn_world.specs.Freeing.{told_ends}
use Rattle.sn_world.specs.Nodes.{group}
use Rattle.sn_world.specs.Notices.{told}
use Rattle.sn_world.specs.World.{World, Turn}
use Rattle.sn_world.specs.Rows.{first_of, row, triples, some_of}

-- ---- ids

-- the id of a new node: -1 asks for the one that is chosen next
abbrev pub id_for : Option ℤ → ℤ → Option ℤ
id_for next id = if int_eq id (negsuc 0) then next else Some id

-- there is none, or a node has it
abbrev pub is_used : {P : Type 0} → Option ℤ → Nodes P → Bool
is_used None nodes = true
is_used (Some id) nodes = holds id nodes

-- -2147483648 is chosen last
abbrev pub one_below : Option ℤ → Option ℤ
one_below None = None
one_below (Some (pos n)) = None
one_below (Some (negsuc n)) = if nat_lt n 2147483647 then Some (negsuc (n + 1)) else None

-- the id that is chosen next, after a node with such an id was made
abbrev pub next_after : Option ℤ → ℤ → Option ℤ
next_after next id = if int_eq id (negsuc 0) then one_below next else next

-- ---- places

-- Action 4 puts the node just before its target, which is freed then: the node takes its place.
abbrev pub add_action : ℤ → Option AddAction
add_action n =
    if int_eq n (pos 0) then Some Head
    else if int_eq n (pos 1) then Some Tail
    else if int_eq n (pos 2) then Some Before
    else if int_eq n (pos 3) then Some After
    else if int_eq n (pos 4) then Some Before
    else None

abbrev pub action_for : ℤ → AddAction
action_for action = unwrap_or (add_action action) Head

abbrev pub replaces : ℤ → Bool
replaces action = int_eq action (pos 4)

-- the nodes without a target that is replaced, and without all below it
abbrev pub left_by : {P : Type 0} → Bool → ℤ → Nodes P → Nodes P
left_by true target nodes = without target nodes
left_by false target nodes = nodes

-- the nodes that go with it
abbrev pub gone_by : {P : Type 0} → Bool → ℤ → Nodes P → Nodes P
gone_by true target nodes = subtree target nodes
gone_by false target nodes = none

-- the nodes with a new one
abbrev pub placed : {P : Type 0} → NewNode → Nodes P → Nodes P → Nodes P
placed r new nodes = left_by (replaces r.action) r.target (put (action_for r.action) r.target new nodes)

-- the nodes that are replaced end, each at the place where it stands
abbrev pub told_if : Bool → List (ℤ × NodeView) → Turn → Turn
told_if true views t = told_ends views t
told_if false views t = t

abbrev pub told_replaced : NewNode → Turn → Turn
told_replaced r t = told_if (replaces r.action) (views_below r.target t.world.nodes) t

-- the first reason against a new node with an id, at a place
abbrev pub node_refusal : {P : Type 0} → Option ℤ → ℤ → ℤ → Nodes P → Option Reason
node_refusal id action target nodes = first_of (
    (is_used id nodes, Reasons.IdInUse)
    ∷ (not (is_some (add_action action)), Reasons.AddAction)
    ∷ (is_missing target nodes, Reasons.NoSuchNode)
    ∷ (is_in_synth (action_for action) target nodes, Reasons.NotGroup)
    ∷ (is_beside_root (action_for action) target, Reasons.Root)
    ∷ (nat_lt most_nodes (count (left_by (replaces action) target nodes) + 1), Reasons.TooManyNodes)
    ∷ [])

-- ---- `/g_new`, `/p_new` (id action target)..

-- an id is -1 or more
abbrev pub is_asked : ℤ → Bool
is_asked (pos id) = true
is_asked (negsuc n) = int_eq (negsuc n) (negsuc 0)

abbrev pub new_node : Argument → Argument → Argument → Option NewNode
new_node (int id) (int action) (int target) = if is_asked id then Some (record { id = id; action = action; target = target }) else None
new_node (int id) (int action) (string s) = None
new_node (int id) (int action) (blob b) = None
new_node (int id) (string s) z = None
new_node (int id) (blob b) z = None
new_node (string s) y z = None
new_node (blob b) y z = None

-- the kind of a group, by whether its members may be rendered beside each other
abbrev pub group_kind : Bool → NodeKind
group_kind false = kinds.Group
group_kind true = kinds.Parallel

abbrev pub of_kind : Bool → Option NewNode → Option NewGroup
of_kind parallel None = None
of_kind parallel (Some r) = Some (record { parallel = parallel; node = r })

abbrev pub new_group : Bool → Argument → Argument → Argument → Option NewGroup
new_group parallel x y z = of_kind parallel (new_node x y z)

abbrev pub judge_group : World → NewGroup → Option Reason
judge_group w r = node_refusal (id_for w.next_id r.node.id) r.node.action r.node.target w.nodes

-- the world with an empty group; an id that was chosen is used up
abbrev pub with_group : NodeKind → NewNode → ℤ → World → World
with_group kind r id w = record w { nodes = placed r (leaf id kind group) w.nodes; next_id = next_after w.next_id r.id }

abbrev pub act_with : NodeKind → NewNode → Option ℤ → Turn → Turn
act_with kind r None t = t
act_with kind r (Some id) t = told Went id (record (told_replaced r t) { world = with_group kind r id t.world })

abbrev pub act_group : NewGroup → Turn → Turn
act_group r t = act_with (group_kind r.parallel) r.node (id_for t.world.next_id r.node.id) t

abbrev pub group_row : Bool → ℕ → List Argument → Turn → Result Turn Reason
group_row parallel from xs = row judge_group act_group (some_of (triples (new_group parallel) xs))
