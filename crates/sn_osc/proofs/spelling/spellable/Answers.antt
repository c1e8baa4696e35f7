use Rattle.std.proofs.Common.{◌≡◌, ◌∙◌, true, false, sym, arith}
use Rattle.std.proofs.lemmas.Bool.{ltb-true, lt-ltb}
use Rattle.sn_osc.specs.Shape.{shape}
use Rattle.sn_osc.specs.Bytes.{is_packet}
use Rattle.sn_osc.proofs.Encoded.{spellable_is, spellable_tests}
use Rattle.sn_osc.proofs.spelling.spellable.Goals as goal

pub returns-then-is_packet : goal.returns-then-is_packet
returns-then-is_packet c =
    let x = shape c.args.packet.now in
    let allowed : is_packet 8 1 x ≡ true = sym c.is_packet.ensures ∙ c.if-is_packet.true in
    ((λ t. spellable_is x allowed (omega (arith, ltb-true _ _ t, c.packet_len.ensures.len))), λ h. lt-ltb _ _ (omega (arith, (spellable_tests x h).1, c.packet_len.ensures.len)))

pub returns-else-is_packet : goal.returns-else-is_packet
returns-else-is_packet c =
    let x = shape c.args.packet.now in
    ((λ t. absurd (let e : true ≡ false = sym t ∙ c.if-is_packet.false in cc)), λ h. c.is_packet.ensures ∙ (spellable_tests x h).0)
