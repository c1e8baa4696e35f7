use Rattle.sn_machine.proofs.Resting.{rest_keeps}
use Rattle.sn_machine.proofs.laws.rest_keeps.Goals as goal

pub returns : goal.returns
returns c = rest_keeps
