use Rattle.sn_def.proofs.Forming.{written_formed}
use Rattle.sn_def.proofs.laws.written_is_well_formed.Goals as goal

pub returns : goal.returns
returns c = written_formed
