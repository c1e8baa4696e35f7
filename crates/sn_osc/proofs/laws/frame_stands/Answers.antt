use Rattle.sn_osc.proofs.Frames.{frame_stands}
use Rattle.sn_osc.proofs.laws.frame_stands.Goals as goal

pub returns : goal.returns
returns c = λ bytes packet rest fits found. frame_stands bytes packet rest fits found
