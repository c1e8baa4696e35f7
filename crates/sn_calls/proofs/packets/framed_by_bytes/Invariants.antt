use Rattle.std.proofs.Common.{◌≡◌, length}
use Rattle.sn_calls.proofs.packets.framed_by_bytes.Given as goal

-- all bytes so far are kept, and each came without a frame
abbrev pub invariant-loop-byte : goal.invariant-loop-byte
invariant-loop-byte l = record {
  kept : length l.framer.kept ≡ l.byte-index;
  fed : l.framer.fed ≡ l.byte-index;
  before : l.before ≡ l.byte-index;
}
