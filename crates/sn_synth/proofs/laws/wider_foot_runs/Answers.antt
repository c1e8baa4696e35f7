use Rattle.sn_synth.proofs.Widening.{runs_wider}
use Rattle.sn_synth.proofs.laws.wider_foot_runs.Goals as goal

pub returns : goal.returns
returns c = λ part whole places controls d state is may. runs_wider part whole places controls d state is may
