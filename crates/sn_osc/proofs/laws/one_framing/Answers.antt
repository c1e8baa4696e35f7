use Rattle.sn_osc.proofs.Framing.{same_framing}
use Rattle.sn_osc.proofs.laws.one_framing.Goals as goal

pub returns : goal.returns
returns c = λ stream fs gs f g first first' none none'. same_framing stream fs gs f g first first' none none'
