use Rattle.sn_filt.proofs.RunLaws.{kept_ago}
use Rattle.sn_filt.proofs.laws.delayed_sum.Goals as goal

pub returns : goal.returns
returns c = λ rate most run same. kept_ago rate most run same
