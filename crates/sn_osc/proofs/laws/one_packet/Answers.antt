use Rattle.std.proofs.Common.{sym, ◌∙◌}
use Rattle.sn_osc.proofs.Fields.{ok_is}
use Rattle.sn_osc.proofs.PacketLaws.{packet_again}
use Rattle.sn_osc.proofs.laws.one_packet.Goals as goal

pub returns : goal.returns
returns c = λ x y bytes a b. ok_is x y (sym (packet_again 8 1 0 bytes x a) ∙ packet_again 8 1 0 bytes y b)
