use Rattle.sn_foot.proofs.Sufficing.{foot_suffices as suffices}
use Rattle.sn_foot.proofs.laws.foot_suffices.Goals as goal

pub returns : goal.returns
returns c = λ rate region buffers hs reach world is. suffices rate region buffers hs reach world is
