use Rattle.std.proofs.Common.{◌≡◌, map, length}
use Rattle.sn_osc.specs.Shape.{argument_of}
use Rattle.sn_def.specs.Defs.{definition_of}
use Rattle.sn_world.specs.NewSynth.{defaults}
use Rattle.sn_nodecmd.specs.Setting.{set_pairs}
use Rattle.sn_nodecmd.proofs.controls.controls_of.Given as goal

abbrev pub invariant-loop-rest : goal.invariant-loop-rest
invariant-loop-rest l = set_pairs (definition_of l.def) (map argument_of l.rest) l.controls.items ≡ set_pairs (definition_of l.def) (map argument_of l.values) (defaults (definition_of l.def))

abbrev pub decreases-loop-rest : goal.decreases-loop-rest
decreases-loop-rest l = length l.rest
