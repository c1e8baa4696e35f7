-- `/n_query`: where nodes stand.
use Rattle.std.specs.Prelude.{ℕ, ℤ, List, Option, Some, None, Result}
use Rattle.sn_osc.specs.Shape.{Argument, int, string, blob}
use Rattle.sn_reply.specs.declared.reason.Reason.{Reason}
use Rattle.sn_tree.specs.declared.node.NodeView.{NodeView}
use Rattle.sn_tree.specs.Trees.{view_of}
use Rattle.sn_world.specs.declared.notices.NodeEvent.TheVariants.{Asked}
use Rattle.sn_world.specs.declared.node_repetition.NodeQuery.{NodeQuery}
use Rattle.sn_world.specs.World.{World, Turn, replied}
use Rattle.sn_world.specs.Notices.{event_message}
use Rattle.sn_world.specs.ControlRuns.{judge_node}
use Rattle.sn_world.specs.Rows.{row, singles, some_of}

abbrev pub node_query : Argument → Option NodeQuery
node_query (int id) = Some (record { id = id })
node_query (string s) = None
node_query (blob b) = None

abbrev pub judge_query : World → NodeQuery → Option Reason
judge_query w r = judge_node w r.id

-- `/n_info` to the sender
abbrev pub info_at : ℕ → ℤ → Option NodeView → Turn → Turn
info_at from id None t = t
info_at from id (Some view) t = replied from (event_message Asked id view) t

abbrev pub act_query : ℕ → NodeQuery → Turn → Turn
act_query from r t = info_at from r.id (view_of r.id t.world.nodes) t

-- `/n_query` id..
abbrev pub query_row : ℕ → List Argument → Turn → Result Turn Reason
query_row from xs = row judge_query (act_query from) (some_of (singles node_query xs))
