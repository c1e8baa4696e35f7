use Rattle.std.proofs.Common.{rules, ◌≡◌, ◌<◌, ◌^◌, ◌++◌, ap, subst, ◌∙◌, length}
use Rattle.std.specs.Int.{w64, to_be_bytes}
use Rattle.sn_osc.specs.Shape.{shape, bundle, shapes}
use Rattle.sn_osc.specs.Bytes.{bundle_head, packet_bytes}
use Rattle.sn_osc.proofs.ShapeLemmas.{shape-Bundle}
use Rattle.sn_osc.proofs.Encoded.{bundle_put, few_inside}
use Rattle.sn_osc.proofs.encoding.+encoding.Goals as goal

pub put_bundle-loop-element-init : goal.put_bundle-loop-element-init
put_bundle-loop-element-init t c =
    let e : c.put_head.new.out.bytes ≡ c.args.out.now.bytes ++ bundle_head ++ to_be_bytes w64 c.args.item.now.tag = search rules in
    record {
      put = bundle_put c.args.out.now.bytes c.put_head.new.out.bytes c.args.item.now.tag (shapes c.args.item.now.elements.items) e;
      few = few_inside c.args.item.now.tag (shapes c.args.item.now.elements.items) (subst (λ x. length (packet_bytes x) < 2 ^ 31) (shape-Bundle c.args.item.now) c.requires);
    }

pub put_packet-returns-in-Bundle : goal.put_packet-returns-in-Bundle
put_packet-returns-in-Bundle t c =
    let same : shape c.args.packet.now ≡ bundle c.in-Bundle.bundle.tag (shapes c.in-Bundle.bundle.elements.items) = ap shape c.in-Bundle.is ∙ shape-Bundle c.in-Bundle.bundle in
    rw same c.put_bundle.ensures
