use Rattle.std.proofs.Common.{refl, rules}
use Rattle.sn_render.proofs.stream.first_packet.Goals as goal

pub returns-in-Err-clause-fault : goal.returns-in-Err-clause-fault
returns-in-Err-clause-fault c = c.fault_of.ensures c.args.bytes.now c.args.at c.requires.some c.in-Err.ensures.none

pub returns-in-Err-Bad-clause-fault : goal.returns-in-Err-Bad-clause-fault
returns-in-Err-Bad-clause-fault c = (c.in-Ok.parts.0.now, c.in-Ok.parts.1.now, c.from.result, refl, c.in-Ok.ensures.found, search rules)
