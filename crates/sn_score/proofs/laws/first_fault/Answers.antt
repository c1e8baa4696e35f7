use Rattle.sn_score.proofs.FirstFaults.{read_fault, fault_read}
use Rattle.sn_score.proofs.laws.first_fault.Goals as goal

pub returns : goal.returns
returns c = λ text number. (λ is. read_fault text number is, λ f. fault_read text number f)
