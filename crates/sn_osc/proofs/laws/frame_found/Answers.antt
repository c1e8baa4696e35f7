use Rattle.sn_osc.proofs.Frames.{frame_found}
use Rattle.sn_osc.proofs.laws.frame_found.Goals as goal

pub returns : goal.returns
returns c = λ packet rest ok. frame_found packet rest ok
