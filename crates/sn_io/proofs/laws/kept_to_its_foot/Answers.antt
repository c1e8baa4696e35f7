use Rattle.sn_io.proofs.ByFoot.{kept_same}
use Rattle.sn_io.proofs.laws.kept_to_its_foot.Goals as goal

pub returns : goal.returns
returns c = λ f change ws by. kept_same f change ws by
