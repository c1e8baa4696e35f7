use Rattle.std.proofs.Common.{◌≡◌, ◌≤◌, ◌+◌, ◌^◌, drop, length, min, true}
use Rattle.sn_osc.specs.Shape.{bundle, shapes}
use Rattle.sn_osc.specs.Bytes.{are_octets, packet_bytes, elements_bytes}
use Rattle.sn_osc.proofs.lengths.+lengths.Given as goal

abbrev pub invariant-bundle_len-loop-element : goal.invariant-bundle_len-loop-element
invariant-bundle_len-loop-element l = record {
  whole : min (l.len + length (elements_bytes (shapes (drop l.element-index l.item.elements.items)))) (2 ^ 31) ≡ min (length (packet_bytes (bundle l.item.tag (shapes l.item.elements.items)))) (2 ^ 31);
  few : l.len ≤ 2 ^ 31;
  octets : are_octets (elements_bytes (shapes (drop l.element-index l.item.elements.items))) ≡ true → are_octets (packet_bytes (bundle l.item.tag (shapes l.item.elements.items))) ≡ true;
}
