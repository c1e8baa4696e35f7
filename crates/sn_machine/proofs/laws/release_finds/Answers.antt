use Rattle.sn_machine.proofs.Releases.{release_finds}
use Rattle.sn_machine.proofs.laws.release_finds.Goals as goal

pub returns : goal.returns
returns c = release_finds
