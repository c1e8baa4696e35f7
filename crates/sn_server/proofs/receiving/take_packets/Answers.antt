use Rattle.std.proofs.Common.{◌≡◌, ◌∙◌, ◌+◌, ◌≤◌, length, ap, subst, List, ℕ, Ok, Option}
use Rattle.sn_osc.specs.Framed.{Next}
use Rattle.sn_osc.specs.Reading.{read}
use Rattle.sn_osc.specs.declared.frame.Frame.{Frame}
use Rattle.sn_server.specs.PlayEvents.{with_packet}
use Rattle.sn_server.proofs.PacketLemmas.{took_one}
use Rattle.sn_server.proofs.receiving.take_packets.Goals as goal

pub loop-frame-preserved : goal.loop-frame-preserved
loop-frame-preserved c =
    let frame = c.in-Ok-Some.frame in
    let given = subst (λ (o : Option Frame). Next c.loop-frame.framer c.next.new.self (Ok o)) c.in-Ok-Some.field-0-is c.in-Ok-Some.ensures in
    let same : c.as_slice.result.now ≡ frame.bytes.bytes = c.as_slice.ensures in
    took_one c.args.engine.now.running c.loop-frame.engine.running c.take_packet.new.engine.running c.args.framer.now c.loop-frame.framer c.next.new.self frame c.loop-frame.invariant given
    (c.in_ok-take_packet-in-Ok-Some.ensures.packet ∙ ap (λ (t : List ℕ). with_packet (read t) c.loop-frame.engine.running) same)
    (subst (λ (t : List ℕ). c.take_packet.new.engine.running.waiting.puts ≤ c.loop-frame.engine.running.waiting.puts + length t) same c.in_ok-take_packet-in-Ok-Some.ensures.puts)
