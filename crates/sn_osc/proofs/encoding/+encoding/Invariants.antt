use Rattle.std.proofs.Common.{◌≡◌, ◌<◌, ◌^◌, ◌++◌, drop, length}
use Rattle.sn_osc.specs.Shape.{bundle, shapes}
use Rattle.sn_osc.specs.Bytes.{packet_bytes, elements_bytes}
use Rattle.sn_osc.proofs.encoding.+encoding.Given as goal

abbrev pub invariant-put_bundle-loop-element : goal.invariant-put_bundle-loop-element
invariant-put_bundle-loop-element l = record {
  put : l.out.bytes ++ elements_bytes (shapes (drop l.element-index l.item.elements.items)) ≡ l.fn.out.bytes ++ packet_bytes (bundle l.item.tag (shapes l.item.elements.items));
  few : length (elements_bytes (shapes (drop l.element-index l.item.elements.items))) < 2 ^ 31;
}
