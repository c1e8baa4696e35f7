use Rattle.sn_filt.proofs.Parts.{highest_is}
use Rattle.sn_filt.proofs.laws.highest_digit.Goals as goal

pub returns : goal.returns
returns c = highest_is
