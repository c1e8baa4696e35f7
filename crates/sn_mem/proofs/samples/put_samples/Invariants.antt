use Rattle.std.proofs.Common.{◌≡◌, length, get_or, pos}
use Rattle.sn_mem.specs.Blocks.{put, table, word_for}
use Rattle.sn_mem.proofs.samples.put_samples.Given as goal

abbrev pub invariant-loop-frame : goal.invariant-loop-frame
invariant-loop-frame l = record {
  long : length l.words ≡ length l.initial.words;
  made : l.words ≡ put l.initial.words l.at (table (λ k. word_for (get_or l.samples k (pos 0))) l.frame);
}
