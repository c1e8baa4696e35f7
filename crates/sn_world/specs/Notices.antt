-- What clients are told of what happens to nodes.
use Rattle.std.specs.Prelude.{ℕ, ◌+◌, ℤ, pos, Bool, if◌then◌else◌, List, [], ◌∷◌, ◌++◌, Option, Some, None, codes}
use Rattle.sn_osc.specs.Shape.{Argument, int, arguments, MessageShape}
use Rattle.sn_reply.specs.declared.replies.To.TheVariants.{Client}
use Rattle.sn_reply.specs.Replies.{ReplyShape}
use Rattle.sn_tree.specs.declared.node.NodeKind.{NodeKind}
use Rattle.sn_tree.specs.declared.node.NodeKind.TheVariants as kinds
use Rattle.sn_tree.specs.declared.node.NodeView.{NodeView}
use Rattle.sn_tree.specs.Trees.{view_of}
use Rattle.sn_world.specs.declared.notices.NodeEvent.{NodeEvent}
use Rattle.sn_world.specs.declared.notices.NodeEvent.TheVariants.{Went, Ended, TurnedOn, TurnedOff, Moved, Asked}
use Rattle.sn_world.specs.World.{Turn}

-- the address of an event's message
abbrev pub event_address : NodeEvent → List ℕ
event_address Went = codes "/n_go"
event_address Ended = codes "/n_end"
event_address TurnedOn = codes "/n_on"
event_address TurnedOff = codes "/n_off"
event_address Moved = codes "/n_move"
event_address Asked = codes "/n_info"

-- 0 for a synth; 1 for a group, and then its first and its last child
abbrev pub kind_arguments : NodeKind → ℤ → ℤ → List Argument
kind_arguments kinds.Synth head tail = int (pos 0) ∷ []
kind_arguments kinds.Group head tail = int (pos 1) ∷ int head ∷ int tail ∷ []
kind_arguments kinds.Parallel head tail = int (pos 1) ∷ int head ∷ int tail ∷ []

-- a node's id, its parent, the node before it and the node after it, with -1 for none, and what it is
abbrev pub event_message : NodeEvent → ℤ → NodeView → MessageShape
event_message event id view = record {
  address = event_address event;
  body = arguments (int id ∷ int view.parent ∷ int view.previous ∷ int view.next ∷ kind_arguments view.kind view.head view.tail);
}

-- a message to each client whose flag is on
abbrev pub notices : ℕ → List Bool → MessageShape → List ReplyShape
notices client [] message = []
notices client (on ∷ flags) message =
    if on then record { to = Client client; message = message } ∷ notices (client + 1) flags message
    else notices (client + 1) flags message

abbrev pub notified : MessageShape → Turn → Turn
notified message t = record t { replies = t.replies ++ notices 0 t.world.notify message }

-- an event of the node with an id, at the place where it stands now; of a node that is not there nothing is told
abbrev pub told_at : NodeEvent → ℤ → Option NodeView → Turn → Turn
told_at event id None t = t
told_at event id (Some view) t = notified (event_message event id view) t

abbrev pub told : NodeEvent → ℤ → Turn → Turn
told event id t = told_at event id (view_of id t.world.nodes) t
