use Rattle.sn_osc.proofs.PacketFaults.{read_faults}
use Rattle.sn_osc.proofs.PacketFound.{read_found}
use Rattle.sn_osc.proofs.laws.first_fault.Goals as goal

pub returns : goal.returns
returns c = λ bytes kind place fits. (λ first. read_faults bytes (record { kind = kind; place = place }) fits first, λ has. read_found bytes kind place has)
