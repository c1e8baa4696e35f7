use Rattle.sn_osc.proofs.Encoded.{few_arguments}
use Rattle.sn_osc.proofs.laws.four_bytes_each.Goals as goal

pub returns : goal.returns
returns c = λ x xs is. few_arguments x xs is
