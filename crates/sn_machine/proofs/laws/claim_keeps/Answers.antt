use Rattle.sn_machine.proofs.Quiet.{claim_keeps}
use Rattle.sn_machine.proofs.laws.claim_keeps.Goals as goal

pub returns : goal.returns
returns c = claim_keeps
