use Rattle.sn_machine.proofs.Loads.{look_keeps}
use Rattle.sn_machine.proofs.laws.look_keeps.Goals as goal

pub returns : goal.returns
returns c = look_keeps
