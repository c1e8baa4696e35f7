use Rattle.sn_machine.proofs.Getting.{got_once}
use Rattle.sn_machine.proofs.laws.runs_get_once.Goals as goal

pub returns : goal.returns
returns c = λ s t run j h. got_once run h j
