use Rattle.sn_osc.proofs.Octets.{blob_octets}
use Rattle.sn_osc.proofs.lengths.blob_len.Goals as goal

pub returns-clause-octets : goal.returns-clause-octets
returns-clause-octets c = blob_octets c.args.content.now c.slice_len.ensures.octets
