use Rattle.sn_round.proofs.Orders.{lower_first}
use Rattle.sn_round.proofs.laws.lower_comes_first.Goals as goal

pub returns : goal.returns
returns c = lower_first
