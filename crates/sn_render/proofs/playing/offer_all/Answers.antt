use Rattle.std.proofs.Common.{map, subst}
use Rattle.sn_osc.specs.Shape.{shape}
use Rattle.sn_render.specs.Play.{arrive}
use Rattle.sn_render.proofs.ArrivingLemmas.{IsOffering, offers}
use Rattle.sn_render.proofs.playing.offer_all.Goals as goal

pub loop-packet-preserved : goal.loop-packet-preserved
loop-packet-preserved c =
    let target = arrive (map shape c.args.packets.items) c.args.engine.now.running in
    let o = subst (λ ps. IsOffering (map shape ps) target c.loop-packet.engine.running) c.in-Some.ensures.steps.0 c.loop-packet.invariant in
    offers (shape c.in-Some.packet) (map shape c.next.new.self.rest.items) target c.loop-packet.engine.running c.offer.new.self.running o c.in_ok-offer.ensures.ok
