use Rattle.sn_osc.proofs.ShapeLemmas.{shape-Bundle}
use Rattle.sn_shelf.proofs.expanding.bundle_packet.Goals as goal

pub returns : goal.returns
returns c = shape-Bundle (record { tag = c.args.tag; elements = c.args.elements })
