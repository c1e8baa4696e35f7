-- `/n_map`: controls of synths follow control buses.
use Rattle.std.specs.Prelude.{ℕ, ℤ, pos, negsuc, Bool, false, not, ◌||◌, nat_lt, nat_eq, List, [], ◌∷◌, slice_index_or, slice_set, Option, Some, None, Result, Ok, Err}
use Rattle.sn_ports.specs.Limits.{control_bus_count}
use Rattle.sn_osc.specs.Shape.{Argument}
use Rattle.sn_def.specs.declared.control.Control.{Control}
use Rattle.sn_def.specs.Definition.{Definition}
use Rattle.sn_def.specs.Asked.{is_index}
use Rattle.sn_synth.specs.Conditions.{no_control}
use Rattle.sn_reply.specs.declared.reason.Reason.{Reason}
use Rattle.sn_reply.specs.declared.reason.Reason.TheVariants as Reasons
use Rattle.sn_tree.specs.Trees.{Nodes, none, node, subtree}
use Rattle.sn_tree.specs.Reworking.{reworked}
use Rattle.sn_world.specs.Nodes.{Content, group, synth}
use Rattle.sn_world.specs.World.{World, Turn}
use Rattle.sn_world.specs.Rows.{first_of, first_refusal, or_else, unless, pairs}
use Rattle.sn_world.specs.Runs.{number}
use Rattle.sn_world.specs.NewSynth.{ControlName, control_name, control_of}
use Rattle.sn_world.specs.ControlRuns.{ForNode, asked_of, in_synth, judge_node}

pub record Mapping : Type 0 where
  pub control : ControlName
  pub bus : ℤ

abbrev pub mapping_of : Option ControlName → Option ℤ → Option Mapping
mapping_of None bus = None
mapping_of (Some c) None = None
mapping_of (Some c) (Some bus) = Some (record { control = c; bus = bus })

-- control bus
abbrev pub mapping : Argument → Argument → Option Mapping
mapping c bus = mapping_of (control_name c) (number bus)

-- a control bus, or -1 for none
abbrev pub is_followable : ℤ → Bool
is_followable (pos n) = nat_lt n control_bus_count
is_followable (negsuc n) = nat_eq n 0

abbrev pub followed_bus : ℤ → Option ℕ
followed_bus (pos n) = Some n
followed_bus (negsuc n) = None

-- A control that follows a bus keeps its own value.
abbrev pub with_bus : Option ℕ → ℤ → List Control → List Control
with_bus None bus controls = controls
with_bus (Some k) bus controls = slice_set controls k (record { value = (slice_index_or controls k no_control).value; bus = followed_bus bus })

abbrev pub with_buses : List Mapping → Definition → List Control → List Control
with_buses [] d controls = controls
with_buses (m ∷ ms) d controls = with_buses ms d (with_bus (control_of d m.control) m.bus controls)

-- whether a name is that of an index control of what a node holds
abbrev pub is_index_of : Definition → Option ℕ → Bool
is_index_of d None = false
is_index_of d (Some k) = is_index d k

abbrev pub is_index_in : ControlName → Content → Bool
is_index_in c group = false
is_index_in c (synth s) = is_index_of s.definition (control_of s.definition c)

abbrev pub any_node : {P : Type 0} → (P → Bool) → Nodes P → Bool
any_node test none = false
any_node test (node label below after) = test label.payload || (any_node test below || any_node test after)

-- against a mapping of the nodes that a message reaches
abbrev pub judge_mapping : Nodes Content → Mapping → Option Reason
judge_mapping reached m = first_of (
    (not (is_followable m.bus), Reasons.Bus)
    ∷ (any_node (is_index_in m.control) reached, Reasons.IndexControl)
    ∷ [])

abbrev pub judge_map : World → ForNode Mapping → Option Reason
judge_map w r = or_else (judge_node w r.id) (first_refusal (judge_mapping (subtree r.id w.nodes)) r.all)

abbrev pub map_buses : ForNode Mapping → World → World
map_buses r w = record w { nodes = reworked (in_synth (with_buses r.all)) r.id w.nodes }

abbrev pub map_outcome : Option (ForNode Mapping) → Turn → Result Turn Reason
map_outcome None t = Err Reasons.Arguments
map_outcome (Some r) t = unless (judge_map t.world r) (Ok (record t { world = map_buses r t.world }))

-- `/n_map` id (control bus)..
abbrev pub map_row : ℕ → List Argument → Turn → Result Turn Reason
map_row from xs t = map_outcome (asked_of (pairs mapping) xs) t
