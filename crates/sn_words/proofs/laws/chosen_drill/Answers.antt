use Rattle.sn_words.proofs.DrillLine.{drills_by}
use Rattle.sn_words.proofs.laws.chosen_drill.Goals as goal

pub returns : goal.returns
returns c = λ words chosen. drills_by words chosen
