-- Commands that leave the layout of a world.
use Rattle.std.specs.Prelude.{◌≡◌, ℕ, zero, suc, ◌+◌, Bool, true, false, not, ◌||◌, nat_lt, List, [], ◌∷◌, length, slice_index_or, Option, Some, None, is_some}
use Rattle.std.specs.List.{list_all}
use Rattle.sn_osc.specs.Shape.{Argument, BodyShape, bare, arguments, foreign, MessageShape}
use Rattle.sn_def.specs.declared.control.Control.{Control}
use Rattle.sn_def.specs.Definition.{Definition}
use Rattle.sn_def.specs.Defs.{definition_of}
use Rattle.sn_def.specs.Asked.{is_index}
use Rattle.sn_synth.specs.Conditions.{no_control}
use Rattle.sn_tree.specs.Trees.{Nodes, subtree, view_of}
use Rattle.sn_world.specs.declared.command.ServerCommand.{ServerCommand}
use Rattle.sn_world.specs.declared.command.ServerCommand.TheVariants as server
use Rattle.sn_world.specs.declared.command.NodeCommand.{NodeCommand}
use Rattle.sn_world.specs.declared.command.NodeCommand.TheVariants as nodes
use Rattle.sn_world.specs.declared.command.Command.{Command}
use Rattle.sn_world.specs.declared.command.Command.TheVariants.{OnNodes, OnServer}
use Rattle.sn_world.specs.declared.node_repetition.RunFlag.{RunFlag}
use Rattle.sn_world.specs.declared.stage.Held.{Held}
use Rattle.sn_world.specs.declared.stage.Held.TheVariants as held
use Rattle.sn_world.specs.Commands.{command, next_after}
use Rattle.sn_world.specs.ControlRuns.{ControlRun, ForNode, asked_runs, fill_run, value_run, values_run}
use Rattle.sn_world.specs.Ending.{is_completing}
use Rattle.sn_world.specs.Mappings.{any_node}
use Rattle.sn_world.specs.NewSynth.{ControlName, control_of}
use Rattle.sn_world.specs.Nodes.{Content, group, synth}
use Rattle.sn_world.specs.Rows.{pairs}
use Rattle.sn_world.specs.RunFlags.{is_flagged, run_flag}
use Rattle.sn_world.specs.World.{Turn}
use Rattle.sn_layout.specs.Layout.{layout_of}

-- ---- what it is to leave it

-- the message of each client leaves the layout that the turn has, and no completion message acts after it
pub record LeavesLayout (m : MessageShape) (t : Turn) : Type 0 where
  pub layout : (from : ℕ) → layout_of (command from m t).world ≡ layout_of t.world
  pub alone : (from : ℕ) → is_completing (next_after from m t) ≡ false

-- ---- controls

-- A control of a synth that the layout has: an index control, or one that follows a bus. A value that is set would
-- change it.
abbrev pub is_laid : Definition → List Control → ℕ → Bool
is_laid d controls k = is_index d k || is_some (slice_index_or controls k no_control).bus

-- one of so many controls from a number on
abbrev pub any_laid : Definition → List Control → ℕ → ℕ → Bool
any_laid d controls k zero = false
any_laid d controls k (suc n) = is_laid d controls k || any_laid d controls (k + 1) n

abbrev pub any_laid_at : Definition → List Control → Option ℕ → ℕ → Bool
any_laid_at d controls None n = false
any_laid_at d controls (Some k) n = any_laid d controls k n

-- so many controls from one on that is named
abbrev pub lays : ControlName → ℕ → Content → Bool
lays c n group = false
lays c n (synth s) = any_laid_at s.definition s.controls (control_of s.definition c) n

-- the same of what a node of a stage holds
abbrev pub holds_laid : ControlName → ℕ → Held → Bool
holds_laid c n held.Group = false
holds_laid c n (held.Synth def controls state) = any_laid_at (definition_of def.value) controls (control_of (definition_of def.value) c) n

-- ---- `/n_set`, `/n_setn` and `/n_fill`

module _ {P : Type 0} (test : ControlName → ℕ → P → Bool) where
  -- one of the controls that runs set is laid in one of these nodes
  abbrev pub runs_laid : Nodes P → List ControlRun → Bool
  runs_laid reached [] = false
  runs_laid reached (r ∷ rs) = any_node (test r.control (length r.values)) reached || runs_laid reached rs

  -- None is, in the node that is named and in all nodes below it. If no runs are named, the command is refused.
  abbrev pub runs_plain : Nodes P → Option (ForNode ControlRun) → Bool
  runs_plain all None = true
  runs_plain all (Some r) = not (runs_laid (subtree r.id all) r.all)

  -- arguments, of which a run is read so
  abbrev pub sets_plain : Nodes P → List Argument → (List Argument → Option (ControlRun × List Argument)) → Bool
  sets_plain all xs read = runs_plain all (asked_runs read xs)

-- ---- `/n_run`

-- Each node that is named has the flag already. If none is named, the command is refused.
abbrev pub flags_stay : {P : Type 0} → Nodes P → Option (List RunFlag) → Bool
flags_stay all None = true
flags_stay all (Some rs) = list_all (λ r. is_flagged r.on (view_of r.id all)) rs

-- ---- commands

module _ {P : Type 0} (test : ControlName → ℕ → P → Bool) where
  -- a command on nodes with these arguments leaves the layout, where these are the nodes
  abbrev pub node_leaves : Nodes P → List Argument → NodeCommand → Bool
  node_leaves all xs nodes.SetControls = sets_plain test all xs value_run
  node_leaves all xs nodes.SetRuns = sets_plain test all xs values_run
  node_leaves all xs nodes.FillRuns = sets_plain test all xs fill_run
  node_leaves all xs nodes.TurnNodes = flags_stay all (pairs run_flag xs)
  node_leaves all xs nodes.Notify = true
  node_leaves all xs nodes.Query = true
  node_leaves all xs nodes.QueryTree = true
  node_leaves all xs nodes.GetControls = true
  node_leaves all xs _ = false

-- With so many arguments it carries no completion message.
abbrev pub server_leaves : ℕ → ServerCommand → Bool
server_leaves n server.Set = true
server_leaves n server.SetRuns = true
server_leaves n server.Fill = true
server_leaves n server.Get = true
server_leaves n server.GetRuns = true
server_leaves n server.ZeroBuffer = nat_lt n 2
server_leaves n server.QueryBuffers = true
server_leaves n server.SetSamples = true
server_leaves n server.SetSampleRuns = true
server_leaves n server.FillSamples = true
server_leaves n server.GetSamples = true
server_leaves n server.GetSampleRuns = true
server_leaves n server.Sync = true
server_leaves n server.Receive = nat_lt n 2
server_leaves n server.Free = true
server_leaves n server.Status = true
server_leaves n server.ClearSched = true
server_leaves n server.Quit = true
server_leaves n _ = false

module _ {P : Type 0} (test : ControlName → ℕ → P → Bool) where
  abbrev pub command_leaves : Nodes P → Command → List Argument → Bool
  command_leaves all (OnNodes c) xs = node_leaves test all xs c
  command_leaves all (OnServer c) xs = server_leaves (length xs) c

  -- What is no command, and what has tags that are not read, is refused.
  abbrev pub asked_leaves : Nodes P → Option Command → BodyShape → Bool
  asked_leaves all None body = true
  asked_leaves all (Some c) bare = command_leaves all c []
  asked_leaves all (Some c) (arguments xs) = command_leaves all c xs
  asked_leaves all (Some c) (foreign tags rest) = true
