-- The first frames were put.
use Rattle.std.proofs.Common.{◌≡◌, ◌≤◌}
use Rattle.std.specs.Prelude.{vec_capacity}
use Rattle.sn_world.specs.World.{world_of}
use Rattle.sn_engine.specs.Outputs.{frames_of}
use Rattle.sn_engine.proofs.hearing.hear_block.Given as goal

abbrev pub invariant-loop-frame : goal.invariant-loop-frame
invariant-loop-frame l = record {
  samples : l.samples.items ≡ frames_of l.channels l.block (world_of l.stage l.fn.memory.words) l.frame;
  room : 512 ≤ vec_capacity l.samples;
  same : l.memory ≡ l.fn.memory;
}
