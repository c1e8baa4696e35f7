use Rattle.std.proofs.Common.{◌≡◌, map, length, is_some}
use Rattle.sn_osc.specs.Shape.{argument_of}
use Rattle.sn_world.specs.Rows.{pairs}
use Rattle.sn_world.specs.NewSynth.{control_value}
use Rattle.sn_nodecmd.proofs.asked.are_values.Given as goal

abbrev pub invariant-loop-rest : goal.invariant-loop-rest
invariant-loop-rest l = is_some (pairs control_value (map argument_of l.rest)) ≡ is_some (pairs control_value (map argument_of l.arguments))

abbrev pub decreases-loop-rest : goal.decreases-loop-rest
decreases-loop-rest l = length l.rest
