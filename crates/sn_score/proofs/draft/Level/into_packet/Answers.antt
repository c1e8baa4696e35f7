use Rattle.sn_osc.proofs.ShapeLemmas.{shape-Bundle}
use Rattle.sn_score.proofs.draft.Level.into_packet.Goals as goal

pub returns : goal.returns
returns c = shape-Bundle (record { tag = c.args.self.tag; elements = c.args.self.elements })
