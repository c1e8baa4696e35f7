use Rattle.sn_osc.proofs.Octets.{string_octets}
use Rattle.sn_osc.proofs.lengths.string_len.Goals as goal

pub returns-clause-octets : goal.returns-clause-octets
returns-clause-octets c = string_octets c.args.s.now c.slice_len.ensures.octets
