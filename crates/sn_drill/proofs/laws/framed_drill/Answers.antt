use Rattle.sn_drill.proofs.Framed.{framed}
use Rattle.sn_drill.proofs.laws.framed_drill.Goals as goal

pub returns : goal.returns
returns c = framed
