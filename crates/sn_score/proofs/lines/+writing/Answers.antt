use Rattle.std.proofs.Common.{◌≡◌, ◌++◌, OnOk, ap, sym, subst, ◌∙◌}
use Rattle.sn_osc.specs.Shape.{Shape, bundle, shape, shapes}
use Rattle.sn_osc.proofs.ShapeLemmas.{shape-Bundle}
use Rattle.sn_score.specs.Lines.{packet_text}
use Rattle.sn_score.proofs.lines.+writing.Goals as goal

pub put_packet-returns-in-Bundle : goal.put_packet-returns-in-Bundle
put_packet-returns-in-Bundle t c =
    let same : shape c.args.packet.now ≡ bundle c.in-Bundle.bundle.tag (shapes c.in-Bundle.bundle.elements.items) = ap shape c.in-Bundle.is ∙ shape-Bundle c.in-Bundle.bundle in
    subst (λ (x : Shape). OnOk c.put_bundle.result (c.put_bundle.new.out.bytes ≡ c.args.out.now.bytes ++ packet_text x)) (sym same) c.put_bundle.ensures
