use Rattle.std.proofs.Common.{◌≡◌, ◌+◌, take, length, get_or}
use Rattle.sn_mem.specs.Blocks.{table, sample_in}
use Rattle.sn_mem.proofs.samples.samples_in.Given as goal

abbrev pub invariant-loop-frame : goal.invariant-loop-frame
invariant-loop-frame l = record {
  long : length l.samples ≡ 64;
  made : take l.frame l.samples ≡ table (λ k. sample_in (get_or l.words (l.at + k) 0)) l.frame;
}
