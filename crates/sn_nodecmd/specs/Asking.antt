-- The arguments of `/s_new` as they are read.
use Rattle.std.specs.Prelude.{◌≡◌, List, [], map, is_some, unwrap_or, true}
use Rattle.sn_osc.specs.declared.packet.Arg.{Arg}
use Rattle.sn_osc.specs.Shape.{argument_of}
use Rattle.sn_world.specs.Rows.{pairs}
use Rattle.sn_world.specs.NewSynth.{NewSynth, control_value}
use Rattle.sn_nodecmd.specs.declared.asked.AskedSynth.{AskedSynth}

-- controls and their values, in turn
abbrev pub AreValues : List Arg → Type 0
AreValues args = is_some (pairs control_value (map argument_of args)) ≡ true

-- what they ask for
abbrev pub request_of : AskedSynth → NewSynth
request_of a = record {
  name = a.name.now;
  node = a.node;
  values = unwrap_or (pairs control_value (map argument_of a.values.now)) [];
}
