use Rattle.sn_machine.proofs.Reaching.{run_keeps}
use Rattle.sn_machine.proofs.Resting.{rest_finds}
use Rattle.sn_machine.proofs.laws.runs_end_in_the_script.Goals as goal

pub returns : goal.returns
returns c = λ s t m h run at can. rest_finds t m (run_keeps run h) at can
