use Rattle.sn_osc.proofs.Encoded.{packet_is}
use Rattle.sn_osc.proofs.laws.one_spelling.Goals as goal

pub returns : goal.returns
returns c = λ x bytes spelled. (packet_is x 8 1 bytes spelled).0
