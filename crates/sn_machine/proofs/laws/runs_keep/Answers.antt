use Rattle.sn_machine.proofs.Reaching.{run_keeps}
use Rattle.sn_machine.proofs.laws.runs_keep.Goals as goal

pub returns : goal.returns
returns c = λ s t h run. run_keeps run h
