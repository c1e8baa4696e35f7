-- Controls that are asked for.
use Rattle.std.specs.Prelude.{◌+◌, ◌*◌, ◌^◌, ◌<◌, List, map, length}
use Rattle.sn_osc.specs.Bytes.{arguments_bytes}
use Rattle.sn_world.specs.NewSynth.{ControlName, name_argument}
use Rattle.sn_world.specs.ControlRuns.{ForNode}
use Rattle.sn_nodecmd.specs.declared.getting.AskedControls.{AskedControls}
use Rattle.sn_nodecmd.specs.Runs.{name_of}

-- what is asked of a node
abbrev pub request_of : AskedControls → ForNode ControlName
request_of a = record { id = a.id; all = map name_of a.controls.items }

-- The controls and their values fit a message.
abbrev pub CanBeTold : List ControlName → Type 0
CanBeTold cs = length (arguments_bytes (map name_argument cs)) + 6 * length cs + 2 ^ 20 < 2 ^ 31
