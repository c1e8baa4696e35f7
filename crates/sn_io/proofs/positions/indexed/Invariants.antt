use Rattle.std.proofs.Common.{◌≡◌, take, length}
use Rattle.sn_mem.specs.Blocks.{table, sample}
use Rattle.sn_io.specs.Positions.{frame_in}
use Rattle.sn_io.proofs.positions.indexed.Given as goal

abbrev pub invariant-loop-frame : goal.invariant-loop-frame
invariant-loop-frame l = record {
  long : length l.found ≡ 64;
  made : take l.frame l.found ≡ table (λ k. frame_in l.frames (sample l.inputs 1 k)) l.frame;
}
