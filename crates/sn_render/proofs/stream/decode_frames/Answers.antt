use Rattle.std.proofs.Common.{◌≡◌, ◌-◌, ◌+◌, ℕ, List, ◌++◌, ◌∷◌, [], length, map, sym, ap, subst, ◌∙◌, append_assoc, arith, rules}
use Rattle.std.specs.Int.{w32, to_be_bytes}
use Rattle.std.proofs.lemmas.List.{length-append, length-map, map_push}
use Rattle.std.specs.Borrow.{Bor}
use Rattle.std.specs.Global.{Vec}
use Rattle.sn_osc.specs.declared.packet.Packet.{Packet}
use Rattle.sn_osc.specs.Shape.{Shape, shape}
use Rattle.sn_osc.specs.Bytes.{frame_bytes}
use Rattle.sn_osc.specs.Frames.{Frames}
use Rattle.sn_osc.proofs.Streams.{one_more}
use Rattle.sn_render.proofs.StreamLemmas.{fault_behind, behind_question}
use Rattle.sn_render.proofs.stream.decode_frames.Goals as goal

pub loop-rest-preserved : goal.loop-rest-preserved
loop-rest-preserved c =
    let i = c.loop-rest.invariant in
    let x = c.in_ok-packet.packet in
    let items = c.loop-rest.packets.items in
    let (f, size, spelled, parts) = c.in_ok-packet.ensures.found in
    let more : map shape c.push.new.self.items ≡ map shape items ++ shape x ∷ [] = ap (map shape) c.in_ok-push.ensures.items ∙ map_push shape items x in
    record {
      front = i.front ++ frame_bytes f;
      parts = i.parts ∙ ap (λ (t : List ℕ). i.front ++ t) parts ∙ sym (append_assoc i.front (frame_bytes f) c.in_ok-packet.after.now);
      frames = subst (λ (xs : List Shape). Frames xs (i.front ++ frame_bytes f)) (sym more) (one_more (map shape items) i.front f (shape x) i.frames size spelled);
      few = omega (arith, i.few, ap length c.in_ok-push.ensures.items, length-append items (x ∷ []), length-append i.front (frame_bytes f), length-append (to_be_bytes w32 (length f)) f);
    }

pub returns-in_err-packet-clause-bad : goal.returns-in_err-packet-clause-bad
returns-in_err-packet-clause-bad c =
    let i = c.loop-rest.invariant in
    let rest = c.loop-rest.rest.now in
    let at = length c.args.bytes.now - length rest in
    let here : at ≡ 0 + length i.front = omega (arith, ap length i.parts, length-append i.front rest) in
    let len : length c.loop-rest.packets.items ≡ c.len-number.result = search rules in
    let count : length (map shape c.loop-rest.packets.items) ≡ c.len-number.result = length-map c.loop-rest.packets.items shape ∙ len in
    behind_question c.from_residual.result c.in_err-packet.field-0.0 _ c.from_residual.ensures.1
    (fault_behind (Packet × Bor (List ℕ)) (Vec Packet) c.args.bytes.now i.front rest (map shape c.loop-rest.packets.items) c.len-number.result at c.in_err-packet.field-0.0 i.frames i.parts count here c.in_err-packet.ensures.number c.in_err-packet.ensures.fault)
