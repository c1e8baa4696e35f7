use Rattle.std.proofs.Common.{map, subst}
use Rattle.sn_osc.specs.Shape.{shape}
use Rattle.sn_score.specs.Answers.{Reads}
use Rattle.sn_score.proofs.Running.{score_read}
use Rattle.sn_score.proofs.FirstFaults.{fault_read}
use Rattle.sn_score.proofs.Answering.{is_found, is_bad}
use Rattle.sn_score.proofs.text.read_score.Goals as goal

pub returns-clause-found : goal.returns-clause-found
returns-clause-found c = is_found (λ v. map shape v.items) c.args.text.now c.read.result c.read.ensures

pub returns-clause-bad : goal.returns-clause-bad
returns-clause-bad c = λ number is. is_bad (λ v. map shape v.items) c.args.text.now c.read.result number is c.read.ensures

pub returns-clause-only_found : goal.returns-clause-only_found
returns-clause-only_found c = λ packets score. subst (Reads (λ v. map shape v.items) c.read.result) (score_read c.args.text.now packets score) c.read.ensures

pub returns-clause-only_bad : goal.returns-clause-only_bad
returns-clause-only_bad c = λ number fault. subst (Reads (λ v. map shape v.items) c.read.result) (fault_read c.args.text.now number fault) c.read.ensures
