use Rattle.sn_machine.proofs.Endings.{end_keeps}
use Rattle.sn_machine.proofs.laws.end_keeps.Goals as goal

pub returns : goal.returns
returns c = end_keeps
