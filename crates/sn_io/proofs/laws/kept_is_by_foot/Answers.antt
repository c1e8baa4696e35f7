use Rattle.sn_io.proofs.ByFoot.{kept_is_by_foot as by_foot}
use Rattle.sn_io.proofs.laws.kept_is_by_foot.Goals as goal

pub returns : goal.returns
returns c = λ f change. by_foot f change
