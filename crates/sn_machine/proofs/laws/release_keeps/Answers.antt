use Rattle.sn_machine.proofs.Releases.{release_keeps}
use Rattle.sn_machine.proofs.laws.release_keeps.Goals as goal

pub returns : goal.returns
returns c = release_keeps
