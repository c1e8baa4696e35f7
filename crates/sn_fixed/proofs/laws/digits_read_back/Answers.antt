use Rattle.sn_fixed.proofs.ReadsBack.{reads_back}
use Rattle.sn_fixed.proofs.laws.digits_read_back.Goals as goal

pub returns : goal.returns
returns c = reads_back
