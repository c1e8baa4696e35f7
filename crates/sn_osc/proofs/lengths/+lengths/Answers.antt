use Rattle.std.proofs.Common.{rules, arith, ◌≡◌, ◌^◌, ap, sym, ◌∙◌, length, min}
use Rattle.sn_osc.specs.Shape.{Shape, shape, shapes}
use Rattle.sn_osc.specs.Bytes.{are_octets, packet_bytes}
use Rattle.sn_osc.proofs.ShapeLemmas.{shape-Bundle}
use Rattle.sn_osc.proofs.Octets.{bundle_octets, elements_next, elements_end, elements_fewer}
use Rattle.sn_osc.proofs.lengths.+lengths.Goals as goal

pub bundle_len-loop-element-init : goal.bundle_len-loop-element-init
bundle_len-loop-element-init t c = record {
  whole = search rules;
  few = search rules;
  octets = bundle_octets c.args.item.now.tag (shapes c.args.item.now.elements.items);
}

pub bundle_len-loop-element-preserved : goal.bundle_len-loop-element-preserved
bundle_len-loop-element-preserved t c =
    let xs = c.args.item.now.elements.items in
    let ys = c.deref-element-items.result.now in
    let x = c.element-item.result in
    let i = c.loop-element.element-index in
    let same : ys ≡ xs = search rules in
    record {
      whole = omega (arith, c.loop-element.invariant.whole, elements_fewer xs ys x i same c.loop-element-test.true c.element-item.is, c.sum-len.ensures, c.sum.ensures, c.packet_len.ensures.len);
      few = search rules;
      octets = elements_next xs ys x i _ same c.loop-element-test.true c.element-item.is c.packet_len.ensures.octets c.loop-element.invariant.octets;
    }

pub bundle_len-returns-clause-octets : goal.bundle_len-returns-clause-octets
bundle_len-returns-clause-octets t c =
    let same : c.deref-element-items.result.now ≡ c.args.item.now.elements.items = search rules in
    elements_end c.args.item.now.elements.items c.loop-element.element-index _ (omega (arith, ap length same, c.loop-element-test.false)) c.loop-element.invariant.octets

pub packet_len-returns-in-Bundle-clause-len : goal.packet_len-returns-in-Bundle-clause-len
packet_len-returns-in-Bundle-clause-len t c = c.bundle_len.ensures.len ∙ sym (ap (λ x. min (length (packet_bytes x)) (2 ^ 31)) (ap shape c.in-Bundle.is ∙ shape-Bundle c.in-Bundle.bundle))

pub packet_len-returns-in-Bundle-clause-octets : goal.packet_len-returns-in-Bundle-clause-octets
packet_len-returns-in-Bundle-clause-octets t c = ap (λ (x : Shape). are_octets (packet_bytes x)) (ap shape c.in-Bundle.is ∙ shape-Bundle c.in-Bundle.bundle) ∙ c.bundle_len.ensures.octets
