use Rattle.sn_report.proofs.Certified.{no_longer}
use Rattle.sn_report.proofs.laws.certified_chain_is_longest.Goals as goal

pub returns : goal.returns
returns c = λ units jobs chain levels other certified goes. no_longer units jobs chain levels other certified goes
