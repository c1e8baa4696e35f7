use Rattle.sn_def.proofs.Complete.{names_short}
use Rattle.sn_def.proofs.laws.names_are_short.Goals as goal

pub returns : goal.returns
returns c = names_short
