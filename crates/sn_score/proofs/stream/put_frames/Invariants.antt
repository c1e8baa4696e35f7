use Rattle.std.proofs.Common.{◌≡◌, ◌++◌, drop, map, flat_map}
use Rattle.sn_osc.specs.Bytes.{frame_bytes, packet_bytes}
use Rattle.sn_osc.specs.Shape.{shape}
use Rattle.sn_score.specs.Score.{AllFit}
use Rattle.sn_score.proofs.stream.put_frames.Given as goal

abbrev pub invariant-loop-packet : goal.invariant-loop-packet
invariant-loop-packet l = record {
  fit : AllFit (map shape (drop l.packet-index l.packets));
  written : l.out.bytes ++ flat_map (λ x. frame_bytes (packet_bytes x)) (map shape (drop l.packet-index l.packets)) ≡ l.fn.out.bytes ++ flat_map (λ x. frame_bytes (packet_bytes x)) (map shape l.packets);
}
