use Rattle.std.proofs.Common.{◌≡◌, take, length}
use Rattle.sn_mem.specs.Blocks.{table, sample}
use Rattle.sn_io.specs.Between.{scaled_point}
use Rattle.sn_io.proofs.between.scaled_points.Given as goal

abbrev pub invariant-loop-frame : goal.invariant-loop-frame
invariant-loop-frame l = record {
  long : length l.found ≡ 64;
  made : take l.frame l.found ≡ table (λ k. scaled_point l.frames (sample l.inputs 1 k) (sample l.inputs 2 k) (sample l.inputs 3 k)) l.frame;
}
