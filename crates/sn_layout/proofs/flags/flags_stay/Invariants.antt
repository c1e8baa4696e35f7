use Rattle.std.proofs.Common.{◌≡◌, true, map, length}
use Rattle.sn_osc.specs.Shape.{argument_of}
use Rattle.sn_world.specs.Rows.{pairs}
use Rattle.sn_world.specs.RunFlags.{run_flag}
use Rattle.sn_layout.specs.Leaving.{flags_stay}
use Rattle.sn_layout.proofs.flags.flags_stay.Given as goal

abbrev pub invariant-loop-rest : goal.invariant-loop-rest
invariant-loop-rest l = flags_stay l.tree.attached (pairs run_flag (map argument_of l.rest)) ≡ true → flags_stay l.tree.attached (pairs run_flag (map argument_of l.arguments)) ≡ true

abbrev pub decreases-loop-rest : goal.decreases-loop-rest
decreases-loop-rest l = length l.rest
