use Rattle.sn_report.proofs.Worlds.{same_report, same_weight}
use Rattle.sn_report.proofs.laws.world_has_the_report.Goals as goal

pub returns-clause-report : goal.returns-clause-report
returns-clause-report c = λ words. same_report c.args.stage.now words

pub returns-clause-weight : goal.returns-clause-weight
returns-clause-weight c = λ words. same_weight c.args.stage.now words
