use Rattle.sn_machine.proofs.Mainly.{count_keeps}
use Rattle.sn_machine.proofs.laws.arm_keeps.Goals as goal

pub returns : goal.returns
returns c = count_keeps
