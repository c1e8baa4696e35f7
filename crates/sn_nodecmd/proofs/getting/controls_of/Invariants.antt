use Rattle.std.proofs.Common.{◌≡◌, map, drop}
use Rattle.sn_osc.specs.Shape.{argument_of}
use Rattle.sn_world.specs.Rows.{singles}
use Rattle.sn_world.specs.NewSynth.{control_name}
use Rattle.sn_world.proofs.Parsing.{after}
use Rattle.sn_nodecmd.specs.Runs.{name_of}
use Rattle.sn_nodecmd.proofs.getting.controls_of.Given as goal

abbrev pub invariant-loop-argument : goal.invariant-loop-argument
invariant-loop-argument l = after (map name_of l.found.items) (singles control_name (map argument_of (drop l.argument-index l.arguments))) ≡ singles control_name (map argument_of l.arguments)
