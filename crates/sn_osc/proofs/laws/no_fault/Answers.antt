use Rattle.std.proofs.Common.{◌≡◌, Ok, Err, Result}
use Rattle.sn_osc.specs.Shape.{Shape}
use Rattle.sn_osc.specs.declared.fault.PacketFault.{PacketFault}
use Rattle.sn_osc.proofs.PacketLaws.{read_again}
use Rattle.sn_osc.proofs.PacketFound.{read_found}
use Rattle.sn_osc.proofs.laws.no_fault.Goals as goal

apart : (x : Shape) (f : PacketFault) (r : Result Shape PacketFault) → r ≡ Ok x → r ≡ Err f → ⊥
apart x f (Ok y) a b = cc
apart x f (Err g) a b = cc

pub returns : goal.returns
returns c = λ x bytes f few spelled first. apart x _ _ (read_again bytes x few spelled) (read_found bytes f.kind f.place first)
