use Rattle.sn_def.proofs.KindNames.{kind_of_name}
use Rattle.sn_def.proofs.laws.kinds_are_named.Goals as goal

pub returns : goal.returns
returns c = kind_of_name
