-- What the replies that are left would add now is what all of them would have added at first.
use Rattle.std.proofs.Common.{◌≡◌, map, drop, length}
use Rattle.sn_ports.specs.Octets.{bytes_of}
use Rattle.sn_reply.specs.Framed.{joined}
use Rattle.sn_reply.specs.Frames.{with_frames, EachBegins, EachHasRoom}
use Rattle.sn_reply.proofs.framing.send.Given as goal

abbrev pub invariant-loop-mark : goal.invariant-loop-mark
invariant-loop-mark l = record {
  bytes : with_frames 0 (drop l.mark-index l.fn.replies) (map bytes_of l.out) ≡ with_frames 0 l.fn.replies (map bytes_of l.fn.out);
  left : l.left ≡ joined (drop l.mark-index l.fn.replies);
  behind : EachBegins (map bytes_of l.fn.out) (map bytes_of l.out);
  room : EachHasRoom l.room l.fn.out → EachHasRoom l.room l.out;
  clients : length l.out ≡ length l.fn.out;
}
