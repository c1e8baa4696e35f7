use Rattle.sn_machine.proofs.Sweeping.{sweep_finds}
use Rattle.sn_machine.proofs.laws.sweep_finds.Goals as goal

pub returns : goal.returns
returns c = sweep_finds
