-- The first samples are made.
use Rattle.std.proofs.Common.{◌≡◌, length, take}
use Rattle.sn_mem.specs.Blocks.{table}
use Rattle.sn_filt.proofs.frames.write_frames.Given as goal

abbrev pub invariant-loop-frame : goal.invariant-loop-frame
invariant-loop-frame g l = record {
  long : length l.samples ≡ 64;
  made : take l.frame l.samples ≡ table (g.U.Framewise.value l.fn.unit l.fn.inputs) l.frame;
}
