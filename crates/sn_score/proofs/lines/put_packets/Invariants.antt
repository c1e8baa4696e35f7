use Rattle.std.proofs.Common.{◌≡◌, ◌++◌, drop, map, flat_map}
use Rattle.sn_osc.specs.Shape.{shape}
use Rattle.sn_score.specs.Lines.{packet_text}
use Rattle.sn_score.proofs.lines.put_packets.Given as goal

abbrev pub invariant-loop-packet : goal.invariant-loop-packet
invariant-loop-packet l = l.out.bytes ++ flat_map packet_text (map shape (drop l.packet-index l.packets)) ≡ l.fn.out.bytes ++ flat_map packet_text (map shape l.packets)
