use Rattle.sn_machine.proofs.Loads.{load_finds}
use Rattle.sn_machine.proofs.laws.load_finds.Goals as goal

pub returns : goal.returns
returns c = load_finds
