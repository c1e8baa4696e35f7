use Rattle.sn_osc.proofs.Streams.{one_list}
use Rattle.sn_osc.proofs.laws.one_list_of_packets.Goals as goal

pub returns : goal.returns
returns c = λ xs ys stream a b. one_list xs ys stream a b
