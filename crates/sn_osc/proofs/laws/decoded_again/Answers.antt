use Rattle.sn_osc.specs.Bytes.{packet_bytes}
use Rattle.sn_osc.proofs.Encoded.{is_spelled}
use Rattle.sn_osc.proofs.PacketLaws.{read_again}
use Rattle.sn_osc.proofs.laws.decoded_again.Goals as goal

pub returns : goal.returns
returns c = λ x spellable few. read_again (packet_bytes x) x few (is_spelled x spellable)
