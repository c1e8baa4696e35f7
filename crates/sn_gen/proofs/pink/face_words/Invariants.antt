use Rattle.std.proofs.Common.{◌≡◌, take, length, get_or, pos}
use Rattle.sn_mem.specs.Blocks.{table, word_for}
use Rattle.sn_gen.proofs.pink.face_words.Given as goal

abbrev pub invariant-loop-die : goal.invariant-loop-die
invariant-loop-die l = record {
  long : length l.words ≡ 16;
  made : take l.die l.words ≡ table (λ j. word_for (get_or l.faces j (pos 0))) l.die;
}
