use Rattle.sn_machine.proofs.Crews.{crew_counted}
use Rattle.sn_machine.proofs.laws.runs_count_the_crew.Goals as goal

pub returns : goal.returns
returns c = λ s t run m idle at running. crew_counted run idle m at running
