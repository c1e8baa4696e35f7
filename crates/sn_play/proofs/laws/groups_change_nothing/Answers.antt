use Rattle.sn_play.proofs.Walked.{synths_walk}
use Rattle.sn_play.proofs.laws.groups_change_nothing.Goals as goal

pub returns : goal.returns
returns c = λ rate b buffers ls ws. synths_walk rate b buffers ls ws
