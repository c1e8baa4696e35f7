use Rattle.sn_words.proofs.RenderLine.{plans_by}
use Rattle.sn_words.proofs.laws.chosen_plan.Goals as goal

pub returns : goal.returns
returns c = λ words chosen. plans_by words chosen
