use Rattle.sn_machine.proofs.Mainly.{go_keeps}
use Rattle.sn_machine.proofs.laws.go_keeps.Goals as goal

pub returns : goal.returns
returns c = go_keeps
