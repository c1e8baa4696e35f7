use Rattle.std.proofs.Common.{refl, arith}
use Rattle.sn_filt.proofs.LineLaws.{first_there}
use Rattle.sn_filt.proofs.lines.first_place.Goals as goal

pub returns-clause-value : goal.returns-clause-value
returns-clause-value g c = first_there c.args.state.at c.args.state.len c.args.places c.from.result c.load.result _ (g.P.Port.words c.args.port.now) (omega arith) c.from.ensures c.load.ensures.word refl
