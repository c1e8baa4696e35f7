use Rattle.std.proofs.Common.{◌∷◌, arith}
use Rattle.sn_osc.proofs.Octets.{octets_from, string_octets}
use Rattle.sn_osc.proofs.lengths.foreign_tags_len.Goals as goal

pub returns-clause-octets : goal.returns-clause-octets
returns-clause-octets c = string_octets (44 ∷ c.args.tags.now) (octets_from c.args.tags.now (λ i. omega (arith, c.type_inv.tags i)))
