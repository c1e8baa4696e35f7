use Rattle.sn_machine.proofs.Mainly.{memory_keeps}
use Rattle.sn_machine.proofs.laws.idle_store_keeps.Goals as goal

pub returns : goal.returns
returns c = memory_keeps
