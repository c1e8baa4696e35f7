use Rattle.std.proofs.Common.{◌≡◌, drop}
use Rattle.sn_world.specs.BufferSamples.{begin_right}
use Rattle.sn_buscmd.proofs.repeating.begin_right.Given as goal

abbrev pub invariant-loop-run : goal.invariant-loop-run
invariant-loop-run l = begin_right (drop l.run-index l.runs) ≡ begin_right l.runs
