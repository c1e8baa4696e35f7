use Rattle.sn_synth.proofs.ByFoot.{synth_by_foot as by_foot}
use Rattle.sn_synth.proofs.laws.synth_by_foot.Goals as goal

pub returns : goal.returns
returns c = λ rate b node f places d controls state is are each size may. by_foot rate b node f places d controls state are is.fit each size may
