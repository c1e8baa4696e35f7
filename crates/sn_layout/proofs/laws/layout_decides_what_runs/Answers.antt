use Rattle.sn_layout.proofs.Voices.{nodes_alike}
use Rattle.sn_layout.proofs.laws.layout_decides_what_runs.Goals as goal

pub returns : goal.returns
returns c = nodes_alike
