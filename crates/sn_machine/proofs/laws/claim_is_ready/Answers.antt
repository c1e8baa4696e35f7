use Rattle.sn_machine.proofs.Getting.{got_ready}
use Rattle.sn_machine.proofs.laws.claim_is_ready.Goals as goal

pub returns : goal.returns
returns c = got_ready
