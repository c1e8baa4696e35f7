use Rattle.sn_machine.proofs.Resting.{rest_finds}
use Rattle.sn_machine.proofs.laws.rest_finds.Goals as goal

pub returns : goal.returns
returns c = rest_finds
