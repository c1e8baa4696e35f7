use Rattle.std.proofs.Common.{arith}
use Rattle.sn_osc.proofs.Octets.{octets_from}
use Rattle.sn_osc.proofs.lengths.slice_len.Goals as goal

pub returns-clause-octets : goal.returns-clause-octets
returns-clause-octets c = octets_from c.args.bytes.now (λ i. omega (arith, c.type_inv.bytes i))
