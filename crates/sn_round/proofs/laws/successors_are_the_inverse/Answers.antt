use Rattle.sn_round.proofs.Following.{inverse}
use Rattle.sn_round.proofs.laws.successors_are_the_inverse.Goals as goal

pub returns : goal.returns
returns c = inverse
