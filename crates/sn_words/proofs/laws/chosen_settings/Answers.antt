use Rattle.sn_words.proofs.RenderLine.{renders_by}
use Rattle.sn_words.proofs.laws.chosen_settings.Goals as goal

pub returns : goal.returns
returns c = λ words chosen. renders_by words chosen
