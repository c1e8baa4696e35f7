-- The commands by their addresses.
use Rattle.std.specs.Prelude.{ℕ, Bool, List, [], ◌∷◌, find, Option, Some, None, codes}
use Rattle.std.specs.Str.{bytes_eq}
use Rattle.std.specs.Option.{option_map}
use Rattle.sn_tree.specs.declared.node.AddAction.TheVariants.{Head, Tail, Before, After}
use Rattle.sn_world.specs.declared.command.ServerCommand.{ServerCommand}
use Rattle.sn_world.specs.declared.command.ServerCommand.TheVariants as server
use Rattle.sn_world.specs.declared.command.NodeCommand.{NodeCommand}
use Rattle.sn_world.specs.declared.command.NodeCommand.TheVariants as nodes
use Rattle.sn_world.specs.declared.command.Command.{Command}
use Rattle.sn_world.specs.declared.command.Command.TheVariants.{OnNodes, OnServer}
use Rattle.sn_world.specs.declared.addresses.Addressed.{Addressed}

-- an address, and the command that it calls
pub record Called : Type 0 where
  pub address : List ℕ
  pub command : Command

-- the same of a command with its address
abbrev pub called_of : Addressed → Called
called_of a = record { address = a.address.now; command = a.command }

abbrev pub on_nodes : List ℕ → NodeCommand → Called
on_nodes address command = record { address = address; command = OnNodes command }

abbrev pub on_server : List ℕ → ServerCommand → Called
on_server address command = record { address = address; command = OnServer command }

-- all commands
abbrev pub every_command : List Called
every_command =
    on_nodes (codes "/s_new") nodes.New
    ∷ on_nodes (codes "/notify") nodes.Notify
    ∷ on_nodes (codes "/n_run") nodes.TurnNodes
    ∷ on_nodes (codes "/n_set") nodes.SetControls
    ∷ on_nodes (codes "/n_setn") nodes.SetRuns
    ∷ on_nodes (codes "/n_fill") nodes.FillRuns
    ∷ on_nodes (codes "/n_map") nodes.MapControls
    ∷ on_nodes (codes "/n_query") nodes.Query
    ∷ on_nodes (codes "/s_get") nodes.GetControls
    ∷ on_nodes (codes "/g_new") nodes.NewGroup
    ∷ on_nodes (codes "/p_new") nodes.NewParallel
    ∷ on_nodes (codes "/n_free") nodes.Free
    ∷ on_nodes (codes "/g_freeAll") nodes.FreeAll
    ∷ on_nodes (codes "/g_deepFree") nodes.DeepFree
    ∷ on_nodes (codes "/g_queryTree") nodes.QueryTree
    ∷ on_nodes (codes "/n_before") (nodes.Move Before)
    ∷ on_nodes (codes "/n_after") (nodes.Move After)
    ∷ on_nodes (codes "/g_head") (nodes.Move Head)
    ∷ on_nodes (codes "/g_tail") (nodes.Move Tail)
    ∷ on_nodes (codes "/n_order") nodes.Order
    ∷ on_server (codes "/c_set") server.Set
    ∷ on_server (codes "/c_setn") server.SetRuns
    ∷ on_server (codes "/c_fill") server.Fill
    ∷ on_server (codes "/c_get") server.Get
    ∷ on_server (codes "/c_getn") server.GetRuns
    ∷ on_server (codes "/b_alloc") server.AllocBuffer
    ∷ on_server (codes "/b_allocRead") server.ReadBuffer
    ∷ on_server (codes "/b_free") server.FreeBuffer
    ∷ on_server (codes "/b_zero") server.ZeroBuffer
    ∷ on_server (codes "/b_query") server.QueryBuffers
    ∷ on_server (codes "/b_set") server.SetSamples
    ∷ on_server (codes "/b_setn") server.SetSampleRuns
    ∷ on_server (codes "/b_fill") server.FillSamples
    ∷ on_server (codes "/b_get") server.GetSamples
    ∷ on_server (codes "/b_getn") server.GetSampleRuns
    ∷ on_server (codes "/sync") server.Sync
    ∷ on_server (codes "/d_recv") server.Receive
    ∷ on_server (codes "/d_free") server.Free
    ∷ on_server (codes "/status") server.Status
    ∷ on_server (codes "/clearSched") server.ClearSched
    ∷ on_server (codes "/quit") server.Quit
    ∷ []

abbrev pub has_address : List ℕ → Called → Bool
has_address address c = bytes_eq c.address address

abbrev pub its_command : Called → Command
its_command c = c.command

-- the command that an address calls, if it calls one
unfoldable pub command_of : List ℕ → Option Command
command_of address = option_map its_command (find (has_address address) every_command)

-- if it is one on nodes
abbrev pub on_nodes_alone : Option Command → Option NodeCommand
on_nodes_alone None = None
on_nodes_alone (Some (OnNodes command)) = Some command
on_nodes_alone (Some (OnServer command)) = None

-- if it is one on buses, buffers, definitions or the server itself
abbrev pub on_server_alone : Option Command → Option ServerCommand
on_server_alone None = None
on_server_alone (Some (OnNodes command)) = None
on_server_alone (Some (OnServer command)) = Some command

abbrev pub node_command_of : List ℕ → Option NodeCommand
node_command_of address = on_nodes_alone (command_of address)

abbrev pub server_command_of : List ℕ → Option ServerCommand
server_command_of address = on_server_alone (command_of address)
