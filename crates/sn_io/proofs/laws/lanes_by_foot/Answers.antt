use Rattle.sn_io.proofs.JointWords.{lanes_by_foot as by_foot}
use Rattle.sn_io.proofs.laws.lanes_by_foot.Goals as goal

pub returns : goal.returns
returns c = λ f b lanes may. by_foot f b lanes may
