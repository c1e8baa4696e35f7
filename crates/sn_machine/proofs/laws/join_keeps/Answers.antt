use Rattle.sn_machine.proofs.Resting.{join_keeps}
use Rattle.sn_machine.proofs.laws.join_keeps.Goals as goal

pub returns : goal.returns
returns c = join_keeps
