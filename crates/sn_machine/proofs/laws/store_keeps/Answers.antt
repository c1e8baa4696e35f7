use Rattle.sn_machine.proofs.Stores.{store_keeps}
use Rattle.sn_machine.proofs.laws.store_keeps.Goals as goal

pub returns : goal.returns
returns c = store_keeps
