use Rattle.std.proofs.Common.{◌≡◌, ◌+◌, ◌≤◌, drop}
use Rattle.sn_pool.specs.Gaps.{words_of}
use Rattle.sn_pool.proofs.region.free_words.Given as goal

abbrev pub invariant-loop-extent : goal.invariant-loop-extent
invariant-loop-extent l = record {
  room : words_of l.live ≤ l.fn.words.len;
  left : l.free + words_of l.live ≡ l.fn.words.len + words_of (drop l.extent-index l.live);
}
