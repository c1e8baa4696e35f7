use Rattle.std.proofs.Common.{◌≡◌, ◌+◌, take, length, get_or}
use Rattle.sn_mem.specs.Blocks.{table, sample_in}
use Rattle.sn_gen.proofs.pink.faces_in.Given as goal

abbrev pub invariant-loop-die : goal.invariant-loop-die
invariant-loop-die l = record {
  long : length l.faces ≡ 16;
  made : take l.die l.faces ≡ table (λ j. sample_in (get_or l.words (3 + j) 0)) l.die;
}
