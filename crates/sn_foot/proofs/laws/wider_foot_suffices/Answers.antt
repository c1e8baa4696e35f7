use Rattle.sn_foot.proofs.NodesByFoot.{suffices_wider}
use Rattle.sn_foot.proofs.laws.wider_foot_suffices.Goals as goal

pub returns : goal.returns
returns c = λ part whole buffers h is may. suffices_wider part whole buffers h is may
