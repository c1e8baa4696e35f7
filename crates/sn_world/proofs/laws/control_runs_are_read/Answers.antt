use Rattle.sn_world.proofs.ControlRunsRead.{control_runs_are_read}
use Rattle.sn_world.proofs.laws.control_runs_are_read.Goals as goal

pub returns : goal.returns
returns c = control_runs_are_read
