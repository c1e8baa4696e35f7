-- Offering the packets that are left gives what offering all of them gave at first.
use Rattle.std.proofs.Common.{map}
use Rattle.sn_osc.specs.Shape.{shape}
use Rattle.sn_render.specs.Play.{arrive}
use Rattle.sn_render.proofs.ArrivingLemmas.{IsOffering}
use Rattle.sn_render.proofs.playing.offer_all.Given as goal

abbrev pub invariant-loop-packet : goal.invariant-loop-packet
invariant-loop-packet l = IsOffering (map shape l.packet-iterator.rest.items) (arrive (map shape l.fn.packets.items) l.fn.engine.running) l.engine.running
