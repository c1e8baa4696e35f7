use Rattle.sn_osc.proofs.Framing.{bad_stays}
use Rattle.sn_osc.proofs.laws.bad_for_good.Goals as goal

pub returns : goal.returns
returns c = λ bytes more size bad. bad_stays bytes more size bad
