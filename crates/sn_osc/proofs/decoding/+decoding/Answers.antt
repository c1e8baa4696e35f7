use Rattle.std.proofs.Common.{rules, refl, ◌≡◌, ◌<◌, ◌-◌, ◌++◌, ◌∷◌, [], true, false, length, map, ap, sym, subst, ◌∙◌, arith}
use Rattle.std.proofs.lemmas.Result.{err_from_is_err_and}
use Rattle.std.proofs.lemmas.List.{map_push, nil_from_length}
use Rattle.sn_osc.specs.Shape.{shape}
use Rattle.sn_osc.specs.Bytes.{begins_with}
use Rattle.sn_osc.specs.Reading.{Gives, Fails, packet_in, is_headed}
use Rattle.sn_osc.proofs.ElementLoop.{goes_on, ends_at_element, ends_at_packet, is_done}
use Rattle.sn_osc.proofs.PacketStart.{at_message, at_start, at_head, at_depth, at_bundle, message_fails}
use Rattle.sn_osc.proofs.decoding.+decoding.Goals as goal

pub elements-returns-in_err-front : goal.elements-returns-in_err-front
elements-returns-in_err-front t c =
    let p = err_from_is_err_and c.from_residual-in_err-front.result c.from_residual-in_err-front.ensures.1 in
    let i = c.loop-rest.invariant in
    let some : 0 < length c.loop-rest.rest.now = search rules in
    rw (p.1, p.2) (ends_at_element c.in_err-front.field-0.0 (packet_in c.args.deep c.args.around) c.args.end (map shape c.loop-rest.elements.items) i.fuel (i.fuel - 1) c.loop-rest.rest.now _ some (omega (arith, i.enough)) c.in_err-front.ensures.value i.read)

pub elements-returns-in_err-packet : goal.elements-returns-in_err-packet
elements-returns-in_err-packet t c =
    let p = err_from_is_err_and c.from_residual-in_err-packet.result c.from_residual-in_err-packet.ensures.1 in
    let i = c.loop-rest.invariant in
    let some : 0 < length c.loop-rest.rest.now = search rules in
    let read = subst (λ k. Fails c.in_err-packet.field-0.0 (packet_in c.args.deep c.args.around k c.in_ok-front.front.now)) c.place.ensures c.in_err-packet.ensures in
    rw (p.1, p.2) (ends_at_packet c.in_err-packet.field-0.0 (packet_in c.args.deep c.args.around) c.args.end (map shape c.loop-rest.elements.items) i.fuel (i.fuel - 1) c.loop-rest.rest.now c.in_ok-front.front.now c.in_ok-front.after.now _ some (omega (arith, i.enough)) c.in_ok-front.ensures.value read i.read)

pub elements-loop-rest-preserved : goal.elements-loop-rest-preserved
elements-loop-rest-preserved t c =
    let i = c.loop-rest.invariant in
    let x = c.in_ok-packet.packet in
    let some : 0 < length c.loop-rest.rest.now = search rules in
    let e : map shape c.push.new.self.items ≡ map shape c.loop-rest.elements.items ++ shape x ∷ [] = ap (map shape) c.in_ok-push.ensures.items ∙ map_push shape c.loop-rest.elements.items x in
    let read : packet_in c.args.deep c.args.around (c.args.end - length c.in_ok-front.after.now) c.in_ok-front.front.now ≡ _ = ap (λ k. packet_in c.args.deep c.args.around k c.in_ok-front.front.now) (sym c.place.ensures) ∙ c.in_ok-packet.ensures in
    record {
      fuel = i.fuel - 1;
      enough = omega (arith, i.enough, c.in_ok-front.ensures.shorter);
      shorter = omega (arith, i.shorter, c.in_ok-front.ensures.shorter);
      read = rw e (goes_on (packet_in c.args.deep c.args.around) c.args.end (map shape c.loop-rest.elements.items) i.fuel (i.fuel - 1) c.loop-rest.rest.now c.in_ok-front.front.now c.in_ok-front.after.now (shape x) _ some (omega (arith, i.enough)) c.in_ok-front.ensures.value read i.read);
    }

pub elements-returns : goal.elements-returns
elements-returns t c =
    let i = c.loop-rest.invariant in
    let none : length c.loop-rest.rest.now ≡ 0 = search rules in
    is_done (packet_in c.args.deep c.args.around) c.args.end (map shape c.loop-rest.elements.items) i.fuel c.loop-rest.rest.now _ (nil_from_length c.loop-rest.rest.now none) i.read

pub packet-returns-in_err-message : goal.packet-returns-in_err-message
packet-returns-in_err-message t c =
    let p = err_from_is_err_and c.from_residual.result c.from_residual.ensures.1 in
    let slash : begins_with 47 c.args.bytes.now ≡ true = search rules in
    rw (p.1, p.2, at_message c.args.deep c.args.around c.args.end c.args.bytes.now slash) (message_fails c.in_err-message.field-0.0 _ c.in_err-message.ensures)

pub packet-returns-then-begins_with : goal.packet-returns-then-begins_with
packet-returns-then-begins_with t c =
    let slash : begins_with 47 c.args.bytes.now ≡ true = search rules in
    at_message c.args.deep c.args.around c.args.end c.args.bytes.now slash ∙ rw c.in_ok-message.ensures refl

pub packet-returns-then-not-begins_with : goal.packet-returns-then-not-begins_with
packet-returns-then-not-begins_with t c =
    let slash : begins_with 47 c.args.bytes.now ≡ false = search rules in
    let hash : begins_with 35 c.args.bytes.now ≡ false = search rules in
    rw (c.bad.ensures, c.place.ensures) (at_start c.args.deep c.args.around c.args.end c.args.bytes.now slash hash)

pub packet-returns-then-not-is_headed : goal.packet-returns-then-not-is_headed
packet-returns-then-not-is_headed t c =
    let slash : begins_with 47 c.args.bytes.now ≡ false = search rules in
    let hash : begins_with 35 c.args.bytes.now ≡ true = search rules in
    let head : is_headed c.args.bytes.now ≡ false = search rules in
    rw (c.bad-then-not-is_headed.ensures, c.place-then-not-is_headed.ensures) (at_head c.args.deep c.args.around c.args.end c.args.bytes.now slash hash head)

pub packet-returns-then-deep-eq0 : goal.packet-returns-then-deep-eq0
packet-returns-then-deep-eq0 t c =
    let slash : begins_with 47 c.args.bytes.now ≡ false = search rules in
    let hash : begins_with 35 c.args.bytes.now ≡ true = search rules in
    let head : is_headed c.args.bytes.now ≡ true = search rules in
    rw (c.bad-then-deep-eq0.ensures, c.place-then-deep-eq0.ensures) (at_depth c.args.deep c.args.around c.args.end c.args.bytes.now slash hash head c.if-deep-eq0.true)

pub packet-returns : goal.packet-returns
packet-returns t c =
    let slash : begins_with 47 c.args.bytes.now ≡ false = search rules in
    let hash : begins_with 35 c.args.bytes.now ≡ true = search rules in
    let head : is_headed c.args.bytes.now ≡ true = search rules in
    subst (Gives shape c.bundle.result) (sym (at_bundle c.args.deep c.args.around c.args.end c.args.bytes.now slash hash head (search rules))) c.bundle.ensures
