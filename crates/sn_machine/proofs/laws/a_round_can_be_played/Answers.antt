use Rattle.std.proofs.Common.{refl}
use Rattle.sn_machine.proofs.Playing.{last, m6, played}
use Rattle.sn_machine.proofs.laws.a_round_can_be_played.Goals as goal

pub returns : goal.returns
returns c = λ x. (last x, played x, (m6 x, refl, refl))
