-- What a message does, whichever command it is.
use Rattle.std.specs.Prelude.{◌≡◌, ℕ, zero, suc, ◌-◌, Bool, true, false, is_none, List, [], Option, Some, None, Result, Ok, Err, if◌then◌else◌}
use Rattle.sn_osc.specs.Shape.{Argument, BodyShape, bare, arguments, foreign, MessageShape}
use Rattle.sn_osc.specs.Reading.{read}
use Rattle.sn_reply.specs.declared.reason.Reason.{Reason}
use Rattle.sn_reply.specs.declared.reason.Reason.TheVariants.{UnknownCommand, ArgumentType, Arguments}
use Rattle.sn_reply.specs.Failing.{fail_message}
use Rattle.sn_world.specs.declared.command.ServerCommand.{ServerCommand}
use Rattle.sn_world.specs.declared.command.ServerCommand.TheVariants as server
use Rattle.sn_world.specs.declared.command.NodeCommand.{NodeCommand}
use Rattle.sn_world.specs.declared.command.NodeCommand.TheVariants as nodes
use Rattle.sn_world.specs.Addresses.{node_command_of, server_command_of}
use Rattle.sn_world.specs.World.{Turn, replied}
use Rattle.sn_world.specs.Buses.{set_row, fill_row, get_row, sync_row}
use Rattle.sn_world.specs.Runs.{setn_row, getn_row}
use Rattle.sn_world.specs.BufferCommands as buffers
use Rattle.sn_world.specs.BufferReading.{read_row}
use Rattle.sn_world.specs.BufferSamples as samples
use Rattle.sn_world.specs.Recv.{recv_row}
use Rattle.sn_world.specs.Forgetting.{forget_row}
use Rattle.sn_world.specs.Status.{status_row}
use Rattle.sn_world.specs.Ending.{quit_row, clear_row, Next, nothing, quitting, clearing, completing}
use Rattle.sn_world.specs.Completing.{carried, own, one_message, message_in}
use Rattle.sn_world.specs.declared.command.Handled.{Handled}
use Rattle.sn_world.specs.declared.command.Handled.TheVariants as answers
use Rattle.sn_world.specs.NewSynth.{new_row}
use Rattle.sn_world.specs.Notifying.{notify_row}
use Rattle.sn_world.specs.RunFlags.{run_row}
use Rattle.sn_world.specs.Queries.{query_row}
use Rattle.sn_world.specs.TreeQueries.{tree_row}
use Rattle.sn_world.specs.SynthQueries.{values_row}
use Rattle.sn_world.specs.ControlRuns.{set_controls_row, set_runs_row, fill_runs_row}
use Rattle.sn_world.specs.Mappings.{map_row}
use Rattle.sn_world.specs.NewNodes.{group_row}
use Rattle.sn_world.specs.Freeing.{free_row}
use Rattle.sn_world.specs.Emptying.{free_all_row, deep_free_row}
use Rattle.sn_world.specs.Moving.{move_row}
use Rattle.sn_world.specs.NodeOrder.{order_row}

-- the row of a command on buses, buffers, definitions or the server itself
abbrev pub server_row : ServerCommand → ℕ → List Argument → Turn → Result Turn Reason
server_row server.Set = set_row
server_row server.SetRuns = setn_row
server_row server.Fill = fill_row
server_row server.Get = get_row
server_row server.GetRuns = getn_row
server_row server.AllocBuffer = buffers.alloc_row
server_row server.ReadBuffer = read_row
server_row server.FreeBuffer = buffers.free_buffer_row
server_row server.ZeroBuffer = buffers.zero_row
server_row server.QueryBuffers = buffers.query_row
server_row server.SetSamples = samples.set_row
server_row server.SetSampleRuns = samples.setn_row
server_row server.FillSamples = samples.fill_row
server_row server.GetSamples = samples.get_row
server_row server.GetSampleRuns = samples.getn_row
server_row server.Sync = sync_row
server_row server.Receive = recv_row
server_row server.Free = forget_row
server_row server.Status = status_row
server_row server.ClearSched = clear_row
server_row server.Quit = quit_row

-- ---- arguments

-- the arguments that a message gives to its command, if they can be read
abbrev pub ArgumentsOf : BodyShape → Option (List Argument) → Type 0
ArgumentsOf bare found = found ≡ Some []
ArgumentsOf (arguments xs) found = found ≡ Some xs
ArgumentsOf (foreign tags rest) found = found ≡ None

-- ---- completion messages

-- the completion message that a message carries, if it carries one
abbrev pub completion_in : Option ServerCommand → BodyShape → Option MessageShape
completion_in None body = None
completion_in (Some command) bare = message_in (carried command [])
completion_in (Some command) (arguments xs) = message_in (carried command xs)
completion_in (Some command) (foreign tags rest) = None

abbrev pub completion_of : MessageShape → Option MessageShape
completion_of m = completion_in (server_command_of m.address) m.body

abbrev pub each_within : (MessageShape → Bool) → Option MessageShape → Bool
each_within test None = true
each_within test (Some m) = test m

-- Completion messages nest at most so deep in a message: it carries none, or one in which they nest one level less
-- deep.
unfoldable pub depth_within : ℕ → MessageShape → Bool
depth_within zero m = is_none (completion_of m)
depth_within (suc deep) m = each_within (depth_within deep) (completion_of m)

-- how deep they may nest
abbrev pub deepest : ℕ
deepest = 8

-- what a command may carry: one message, in which they nest one level less deep than they may
abbrev pub acceptable : Option MessageShape → Option MessageShape
acceptable None = None
acceptable (Some m) = if depth_within (deepest - 1) m then Some m else None

-- What the message in its blob is decides whether a command is judged at all, and changes nothing of what it does.
abbrev pub with_completion : Option MessageShape → Result Turn Reason → Result Turn Reason
with_completion None r = Err Arguments
with_completion (Some m) r = r

-- the row of a command with the blob that it carries, if it carries one
abbrev pub carrying_row : ServerCommand → Option (List ℕ) → ℕ → List Argument → Turn → Result Turn Reason
carrying_row command None from xs t = server_row command from xs t
carrying_row command (Some b) from xs t = with_completion (acceptable (one_message (read b))) (server_row command from (own xs) t)

abbrev pub whole_row : ServerCommand → ℕ → List Argument → Turn → Result Turn Reason
whole_row command from xs t = carrying_row command (carried command xs) from xs t

-- how it is told that a command was carried out that carries no completion message
abbrev pub handled_as : ServerCommand → Handled
handled_as server.ClearSched = answers.ClearSched
handled_as server.Quit = answers.Quit
handled_as _ = answers.Done

-- ---- what is done besides, if a command is accepted

-- what follows from how it was handled, if it carries no completion message
abbrev pub ending_of : Handled → Next
ending_of answers.ClearSched = clearing
ending_of answers.Quit = quitting
ending_of _ = nothing

abbrev pub next_alone : ServerCommand → Next
next_alone command = ending_of (handled_as command)

abbrev pub next_with : ServerCommand → Option MessageShape → Next
next_with command None = next_alone command
next_with command (Some m) = completing m

abbrev pub next_of : Option ServerCommand → BodyShape → Next
next_of None body = nothing
next_of (Some command) body = next_with command (completion_in (Some command) body)

-- the row of a command on nodes
abbrev pub node_row : NodeCommand → ℕ → List Argument → Turn → Result Turn Reason
node_row nodes.New = new_row
node_row nodes.Notify = notify_row
node_row nodes.TurnNodes = run_row
node_row nodes.SetControls = set_controls_row
node_row nodes.SetRuns = set_runs_row
node_row nodes.FillRuns = fill_runs_row
node_row nodes.MapControls = map_row
node_row nodes.NewGroup = group_row false
node_row nodes.NewParallel = group_row true
node_row nodes.Free = free_row
node_row nodes.FreeAll = free_all_row
node_row nodes.DeepFree = deep_free_row
node_row nodes.Query = query_row
node_row nodes.QueryTree = tree_row
node_row nodes.GetControls = values_row
node_row (nodes.Move action) = move_row action
node_row nodes.Order = order_row

-- A row takes the arguments, of which an address alone has none. Tags that are not read are refused before anything
-- else is judged.
abbrev pub with_arguments : BodyShape → (List Argument → Turn → Result Turn Reason) → Turn → Result Turn Reason
with_arguments bare run t = run [] t
with_arguments (arguments xs) run t = run xs t
with_arguments (foreign tags rest) run t = Err ArgumentType

abbrev pub server_outcome : Option ServerCommand → ℕ → BodyShape → Turn → Option (Result Turn Reason)
server_outcome None from body t = None
server_outcome (Some command) from body t = Some (with_arguments body (whole_row command from) t)

-- what a message from a client does, if it is such a command
abbrev pub run_bus : ℕ → MessageShape → Turn → Option (Result Turn Reason)
run_bus from m t = server_outcome (server_command_of m.address) from m.body t

abbrev pub node_outcome : Option NodeCommand → ℕ → BodyShape → Turn → Option (Result Turn Reason)
node_outcome None from body t = None
node_outcome (Some command) from body t = Some (with_arguments body (node_row command from) t)

-- what a message from a client does, if it is a command on nodes
abbrev pub run_node : ℕ → MessageShape → Turn → Option (Result Turn Reason)
run_node from m t = node_outcome (node_command_of m.address) from m.body t

-- the first of two that is there
abbrev pub either : Option (Result Turn Reason) → Option (Result Turn Reason) → Option (Result Turn Reason)
either None other = other
either (Some r) other = Some r

abbrev pub or_unknown : Option (Result Turn Reason) → Result Turn Reason
or_unknown None = Err UnknownCommand
or_unknown (Some r) = r

-- A refused command changes nothing, and its only reply is `/fail` to its sender.
abbrev pub answered : ℕ → List ℕ → Turn → Result Turn Reason → Turn
answered from address t (Ok after) = after
answered from address t (Err reason) = replied from (fail_message address reason) t

-- a command
abbrev pub command : ℕ → MessageShape → Turn → Turn
command from m t = answered from m.address t (or_unknown (either (run_node from m t) (run_bus from m t)))

-- What a message does besides, by its outcomes as a command on nodes and as another one: nothing if it is refused.
abbrev pub next_in : Option (Result Turn Reason) → Option (Result Turn Reason) → Next → Next
next_in (Some r) other n = nothing
next_in None None n = nothing
next_in None (Some (Err reason)) n = nothing
next_in None (Some (Ok t)) n = n

abbrev pub next_after : ℕ → MessageShape → Turn → Next
next_after from m t = next_in (run_node from m t) (run_bus from m t) (next_of (server_command_of m.address) m.body)
