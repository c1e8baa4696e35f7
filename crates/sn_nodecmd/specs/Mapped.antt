-- Mappings of controls as they are read, and what is against them in the nodes of a stage.
use Rattle.std.specs.Prelude.{◌≡◌, ℤ, Bool, false, not, List, [], ◌∷◌, map, Option, None, Some, Result, Ok, Err}
use Rattle.sn_ports.specs.declared.failed.NoMemory.{NoMemory}
use Rattle.sn_def.specs.declared.control.Control.{Control}
use Rattle.sn_def.specs.Definition.{Definition}
use Rattle.sn_def.specs.Defs.{definition_of}
use Rattle.sn_reply.specs.declared.reason.Reason.{Reason}
use Rattle.sn_reply.specs.declared.reason.Reason.TheVariants as Reasons
use Rattle.sn_tree.specs.Trees.{Nodes, subtree}
use Rattle.sn_tree.specs.Model.{NodeTree}
use Rattle.sn_tree.specs.Reworking.{changed_below}
use Rattle.sn_world.specs.declared.stage.Held.{Held}
use Rattle.sn_world.specs.declared.stage.Held.TheVariants as held
use Rattle.sn_world.specs.Rows.{first_of, first_refusal}
use Rattle.sn_world.specs.NewSynth.{ControlName, control_of}
use Rattle.sn_world.specs.ControlRuns.{ControlRun, ForNode}
use Rattle.sn_world.specs.Mappings.{is_followable, is_index_of, any_node, with_buses}
use Rattle.sn_world.specs.Mappings.{Mapping as AskedMapping}
use Rattle.sn_nodecmd.specs.declared.mappings.Mapping.{Mapping}
use Rattle.sn_nodecmd.specs.declared.mappings.AskedMappings.{AskedMappings}
use Rattle.sn_nodecmd.specs.Runs.{name_of}
use Rattle.sn_nodecmd.specs.Reworks.{held_with}

abbrev pub mapping_of : Mapping → AskedMapping
mapping_of m = record { control = name_of m.control; bus = m.bus }

-- a mapping as a run, whose number is the bus
abbrev pub run_for : AskedMapping → ControlRun
run_for m = record { control = m.control; values = m.bus ∷ [] }

-- what is asked of a node
abbrev pub request_of : AskedMappings → ForNode AskedMapping
request_of a = record { id = a.id; all = map mapping_of a.mappings.items }

-- whether a name is that of an index control of what a node holds
abbrev pub takes_index : ControlName → Held → Bool
takes_index c held.Group = false
takes_index c (held.Synth def controls state) = is_index_of (definition_of def.value) (control_of (definition_of def.value) c)

-- against a mapping in these nodes
abbrev pub refusal_in : Nodes Held → AskedMapping → Option Reason
refusal_in reached m = first_of (
    (not (is_followable m.bus), Reasons.Bus)
    ∷ (any_node (takes_index m.control) reached, Reasons.IndexControl)
    ∷ [])

-- These mappings are refused for the same reason as all, or else do the same.
pub record AreNeeded (all needed : List AskedMapping) : Type 0 where
  pub refused : (reached : Nodes Held) → first_refusal (refusal_in reached) needed ≡ first_refusal (refusal_in reached) all
  pub mapped : (reached : Nodes Held) → first_refusal (refusal_in reached) all ≡ None → (d : Definition) (cs : List Control) → with_buses needed d cs ≡ with_buses all d cs

-- A tree is mapped, by the answer: nothing changed if there is a reason against it, or memory was refused.
abbrev pub IsMapped : Result (Option Reason) NoMemory → List AskedMapping → ℤ → NodeTree Held → NodeTree Held → Type 0
IsMapped (Ok None) ms id old new = (first_refusal (refusal_in (subtree id old.attached)) ms ≡ None) × (new ≡ changed_below (held_with (with_buses ms)) id old)
IsMapped (Ok (Some reason)) ms id old new = (first_refusal (refusal_in (subtree id old.attached)) ms ≡ Some reason) × (new ≡ old)
IsMapped (Err e) ms id old new = new ≡ old
