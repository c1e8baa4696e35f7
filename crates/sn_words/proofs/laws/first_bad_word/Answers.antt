use Rattle.sn_words.proofs.FirstBad.{finds_first_bad}
use Rattle.sn_words.proofs.laws.first_bad_word.Goals as goal

pub returns : goal.returns
returns c = finds_first_bad
