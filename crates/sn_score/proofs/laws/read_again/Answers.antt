use Rattle.sn_score.proofs.Running.{score_read}
use Rattle.sn_score.proofs.FirstFaults.{read_score}
use Rattle.sn_score.proofs.laws.read_again.Goals as goal

pub returns : goal.returns
returns c = λ text packets. (λ is. read_score text packets is, λ h. score_read text packets h)
