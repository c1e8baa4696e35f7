use Rattle.sn_words.proofs.FirstBad.{defaults}
use Rattle.sn_words.proofs.laws.defaults_stand.Goals as goal

pub returns : goal.returns
returns c = defaults
