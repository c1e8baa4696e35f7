use Rattle.sn_machine.proofs.Splitting.{split_keeps}
use Rattle.sn_machine.proofs.laws.split_keeps.Goals as goal

pub returns : goal.returns
returns c = split_keeps
