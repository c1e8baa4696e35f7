use Rattle.sn_io.proofs.ByFoot.{by_wider_foot as wider}
use Rattle.sn_io.proofs.laws.by_wider_foot.Goals as goal

pub returns : goal.returns
returns c = λ part whole change is by. wider part whole change is by
