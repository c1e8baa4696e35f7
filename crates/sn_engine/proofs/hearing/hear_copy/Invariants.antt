-- The first frames were put.
use Rattle.std.proofs.Common.{◌≡◌, ◌≤◌}
use Rattle.std.specs.Prelude.{vec_capacity}
use Rattle.sn_engine.specs.Outputs.{copied_frames}
use Rattle.sn_engine.proofs.hearing.hear_copy.Given as goal

abbrev pub invariant-loop-frame : goal.invariant-loop-frame
invariant-loop-frame l = record {
  samples : l.samples.items ≡ copied_frames l.channels l.at l.fn.memory.words l.frame;
  room : 512 ≤ vec_capacity l.samples;
  same : l.memory ≡ l.fn.memory;
}
