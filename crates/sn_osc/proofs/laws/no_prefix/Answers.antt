use Rattle.sn_osc.proofs.Frames.{nothing_after}
use Rattle.sn_osc.proofs.laws.no_prefix.Goals as goal

pub returns : goal.returns
returns c = λ a b rest few many same. nothing_after a b rest few many same
