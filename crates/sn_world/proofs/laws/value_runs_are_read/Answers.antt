use Rattle.sn_world.proofs.RunsRead.{runs_are_read}
use Rattle.sn_world.proofs.laws.value_runs_are_read.Goals as goal

pub returns : goal.returns
returns c = runs_are_read
