use Rattle.std.proofs.Common.{sym, ◌∙◌}
use Rattle.sn_score.proofs.FirstFaults.{fault_read, excluded}
use Rattle.sn_score.proofs.Answering.{number_is}
use Rattle.sn_score.proofs.laws.one_fault.Goals as goal

pub returns-clause-one : goal.returns-clause-one
returns-clause-one c = λ text m n a b. number_is m n (sym (fault_read text m a) ∙ fault_read text n b)

pub returns-clause-none : goal.returns-clause-none
returns-clause-none c = λ text packets n h f. excluded text packets n h f
