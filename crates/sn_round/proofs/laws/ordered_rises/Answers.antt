use Rattle.sn_round.proofs.Orders.{rises}
use Rattle.sn_round.proofs.laws.ordered_rises.Goals as goal

pub returns : goal.returns
returns c = λ jobs i j are o. rises jobs are o
