use Rattle.sn_machine.proofs.Loads.{idle_finds}
use Rattle.sn_machine.proofs.laws.idle_load_finds.Goals as goal

pub returns : goal.returns
returns c = idle_finds
