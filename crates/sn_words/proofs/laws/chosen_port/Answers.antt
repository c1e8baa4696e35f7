use Rattle.sn_words.proofs.ServeLine.{serves_by}
use Rattle.sn_words.proofs.laws.chosen_port.Goals as goal

pub returns : goal.returns
returns c = λ words chosen. serves_by words chosen
