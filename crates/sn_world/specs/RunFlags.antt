-- `/n_run`: nodes are paused, or run again.
use Rattle.std.specs.Prelude.{ℕ, Bool, true, false, not, if◌then◌else◌, List, [], ◌∷◌, Option, Some, None, Result}
use Rattle.sn_osc.specs.Shape.{Argument, int, string, blob}
use Rattle.sn_reply.specs.declared.reason.Reason.{Reason}
use Rattle.sn_reply.specs.declared.reason.Reason.TheVariants as Reasons
use Rattle.sn_tree.specs.declared.node.NodeView.{NodeView}
use Rattle.sn_tree.specs.Trees.{changed, with_running, view_of}
use Rattle.sn_tree.specs.Faults.{is_missing}
use Rattle.sn_world.specs.declared.notices.NodeEvent.{NodeEvent}
use Rattle.sn_world.specs.declared.notices.NodeEvent.TheVariants.{TurnedOn, TurnedOff}
use Rattle.sn_world.specs.declared.node_repetition.RunFlag.{RunFlag}
use Rattle.sn_world.specs.World.{World, Turn}
use Rattle.sn_world.specs.Notices.{told}
use Rattle.sn_world.specs.Notifying.{flag_of}
use Rattle.sn_world.specs.Rows.{first_of, row, pairs, some_of}

abbrev pub run_flag : Argument → Argument → Option RunFlag
run_flag (int id) (int flag) = Some (record { id = id; on = flag_of flag })
run_flag (int id) (string s) = None
run_flag (int id) (blob b) = None
run_flag (string s) y = None
run_flag (blob b) y = None

abbrev pub judge_run : World → RunFlag → Option Reason
judge_run w r = first_of ((is_missing r.id w.nodes, Reasons.NoSuchNode) ∷ [])

abbrev pub turning : Bool → NodeEvent
turning true = TurnedOn
turning false = TurnedOff

-- whether a node has such a run flag
abbrev pub is_flagged : Bool → Option NodeView → Bool
is_flagged on None = false
is_flagged on (Some view) = if on then view.running else not view.running

abbrev pub with_flag : RunFlag → Turn → Turn
with_flag r t = record t { world = record t.world { nodes = changed r.id (with_running r.on) t.world.nodes } }

-- Clients are told if the flag has changed.
abbrev pub act_run : RunFlag → Turn → Turn
act_run r t = if is_flagged r.on (view_of r.id t.world.nodes) then t else told (turning r.on) r.id (with_flag r t)

-- `/n_run` (id flag)..
abbrev pub run_row : ℕ → List Argument → Turn → Result Turn Reason
run_row from xs = row judge_run act_run (some_of (pairs run_flag xs))
