use Rattle.sn_filt.proofs.LineRuns.{input_between}
use Rattle.sn_filt.proofs.laws.delayed_line.Goals as goal

pub returns : goal.returns
returns c = λ rate most run same fits. input_between rate most run same fits
