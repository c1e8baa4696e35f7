use Rattle.sn_round.proofs.Following.{once}
use Rattle.sn_round.proofs.laws.successors_are_distinct.Goals as goal

pub returns : goal.returns
returns c = once
