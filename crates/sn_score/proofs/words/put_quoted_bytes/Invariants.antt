use Rattle.std.proofs.Common.{◌≡◌, ◌++◌, drop, flat_map}
use Rattle.sn_score.specs.Words.{quoted_byte}
use Rattle.sn_score.proofs.words.put_quoted_bytes.Given as goal

abbrev pub invariant-loop-byte : goal.invariant-loop-byte
invariant-loop-byte l = l.out.bytes ++ flat_map quoted_byte (drop l.byte-index l.bytes) ≡ l.fn.out.bytes ++ flat_map quoted_byte l.bytes
