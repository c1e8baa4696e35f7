use Rattle.std.proofs.Common.{◌≡◌, ◌++◌, drop}
use Rattle.sn_score.specs.Words.{hex}
use Rattle.sn_score.proofs.words.put_hex.Given as goal

abbrev pub invariant-loop-byte : goal.invariant-loop-byte
invariant-loop-byte l = l.out.bytes ++ hex (drop l.byte-index l.bytes) ≡ l.fn.out.bytes ++ hex l.bytes
