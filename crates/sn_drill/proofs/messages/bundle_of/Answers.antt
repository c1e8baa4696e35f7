use Rattle.sn_osc.proofs.ShapeLemmas.{shape-Bundle}
use Rattle.sn_drill.proofs.messages.bundle_of.Goals as goal

pub returns : goal.returns
returns c = shape-Bundle (record { tag = c.args.tag; elements = c.args.elements })
