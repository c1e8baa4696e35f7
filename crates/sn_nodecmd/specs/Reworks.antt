-- Controls that are changed in a node and in all nodes below it.
use Rattle.std.specs.Prelude.{List, map}
use Rattle.sn_def.specs.declared.control.Control.{Control}
use Rattle.sn_def.specs.Definition.{Definition}
use Rattle.sn_def.specs.Defs.{definition_of}
use Rattle.sn_world.specs.ControlRuns.{ControlRun, ForNode}
use Rattle.sn_nodecmd.specs.declared.setting.AskedRuns.{AskedRuns}
use Rattle.sn_nodecmd.specs.Runs.{run_of}
use Rattle.sn_world.specs.declared.stage.Held.{Held}
use Rattle.sn_world.specs.declared.stage.Held.TheVariants as held

-- what a node holds, with its controls changed by its definition
abbrev pub held_with : (Definition → List Control → List Control) → Held → Held
held_with change held.Group = held.Group
held_with change (held.Synth def controls state) = held.Synth def (change (definition_of def.value) controls) state

-- what is asked of a node
abbrev pub request_of : AskedRuns → ForNode ControlRun
request_of a = record { id = a.id; all = map run_of a.runs.items }
