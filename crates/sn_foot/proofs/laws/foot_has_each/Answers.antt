use Rattle.sn_foot.proofs.NodesByFoot.{foot_has_each as has_each}
use Rattle.sn_foot.proofs.laws.foot_has_each.Goals as goal

pub returns : goal.returns
returns c = λ buffers hs reach is. has_each buffers hs reach is
