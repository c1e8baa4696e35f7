-- `/s_get`: the values of a synth's controls.
use Rattle.std.specs.Prelude.{ℕ, ℤ, List, [], ◌∷◌, ◌++◌, slice_index_or, Option, Some, None, Result, Ok, Err, codes}
use Rattle.std.specs.Option.{option_map}
use Rattle.sn_osc.specs.Shape.{Argument, int, arguments, MessageShape}
use Rattle.sn_mem.specs.Buses.{ControlBus}
use Rattle.sn_def.specs.declared.control.Control.{Control}
use Rattle.sn_def.specs.Definition.{Definition}
use Rattle.sn_synth.specs.Synths.{control_value}
use Rattle.sn_synth.specs.Conditions.{no_control}
use Rattle.sn_reply.specs.declared.reason.Reason.{Reason}
use Rattle.sn_reply.specs.declared.reason.Reason.TheVariants as Reasons
use Rattle.sn_tree.specs.Trees.{Nodes, label_of}
use Rattle.sn_world.specs.Nodes.{Content, group, synth}
use Rattle.sn_world.specs.World.{Turn, replied}
use Rattle.sn_world.specs.Rows.{singles}
use Rattle.sn_world.specs.NewSynth.{ControlName, control_name, name_argument, control_of}
use Rattle.sn_world.specs.ControlRuns.{ForNode, asked_of}

-- A control, and its value: that of the control bus that it follows, or its own. A control that the definition doesn't
-- have is ignored.
abbrev pub value_arguments : List ControlBus → List Control → ControlName → Option ℕ → List Argument
value_arguments buses controls c None = []
value_arguments buses controls c (Some k) = name_argument c ∷ int (control_value buses (slice_index_or controls k no_control)) ∷ []

abbrev pub values_asked : List ControlBus → Definition → List Control → List ControlName → List Argument
values_asked buses d controls [] = []
values_asked buses d controls (c ∷ cs) = value_arguments buses controls c (control_of d c) ++ values_asked buses d controls cs

-- `/n_set` id (control value)..
abbrev pub values_message : List ControlBus → ℤ → Definition → List Control → List ControlName → MessageShape
values_message buses id d controls cs = record { address = codes "/n_set"; body = arguments (int id ∷ values_asked buses d controls cs) }

-- what a node holds
abbrev pub payload_at : {P : Type 0} → ℤ → Nodes P → Option P
payload_at id nodes = option_map (λ l. l.payload) (label_of id nodes)

abbrev pub values_from : ℕ → ForNode ControlName → Option Content → Turn → Result Turn Reason
values_from from r None t = Err Reasons.NoSuchNode
values_from from r (Some group) t = Err Reasons.NotSynth
values_from from r (Some (synth s)) t = Ok (replied from (values_message t.world.control_buses r.id s.definition s.controls r.all) t)

abbrev pub values_outcome : ℕ → Option (ForNode ControlName) → Turn → Result Turn Reason
values_outcome from None t = Err Reasons.Arguments
values_outcome from (Some r) t = values_from from r (payload_at r.id t.world.nodes) t

-- `/s_get` id control..
abbrev pub values_row : ℕ → List Argument → Turn → Result Turn Reason
values_row from xs t = values_outcome from (asked_of (singles control_name) xs) t
