use Rattle.sn_osc.proofs.UnpackingLemmas.{unpacked_joined}
use Rattle.sn_osc.proofs.laws.joined_frames.Goals as goal

pub returns : goal.returns
returns c = λ a b. unpacked_joined a b
