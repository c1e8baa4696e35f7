use Rattle.sn_machine.proofs.Opening.{opens, opening_fits}
use Rattle.sn_machine.proofs.laws.opening_holds.Goals as goal

pub returns : goal.returns
returns c = record { rule = opens; fits = opening_fits }
