use Rattle.std.proofs.Common.{arith}
use Rattle.sn_osc.specs.Shape.{shape}
use Rattle.sn_engine.proofs.PutLemmas.{entries_few}
use Rattle.sn_server.proofs.PacketLemmas.{packet_puts}
use Rattle.sn_server.proofs.receiving.take_packet.Goals as goal

pub offer-requires-clause-puts : goal.offer-requires-clause-puts
offer-requires-clause-puts c = omega (arith, c.requires.puts, entries_few (shape c.in-Ok.packet) c.args.bytes.now c.in-Ok.ensures.found.1 c.requires.size)

pub returns-in_ok-offer-in-Ok-clause-puts : goal.returns-in_ok-offer-in-Ok-clause-puts
returns-in_ok-offer-in-Ok-clause-puts c = packet_puts (shape c.in-Ok.packet) c.args.bytes.now c.args.engine.now.running c.offer.new.self.running c.in-Ok.ensures.found.1 c.requires.size c.in_ok-offer-in-Ok.ensures.ok
