use Rattle.sn_filt.proofs.RunLaws.{input_ago}
use Rattle.sn_filt.proofs.laws.delayed_input.Goals as goal

pub returns : goal.returns
returns c = λ rate most run same fits. input_ago rate most run same fits
