use Rattle.sn_gen.proofs.Sweeping.{straight}
use Rattle.sn_gen.proofs.laws.line_is_straight.Goals as goal

pub returns : goal.returns
returns c = λ rate run begins. straight rate run begins
