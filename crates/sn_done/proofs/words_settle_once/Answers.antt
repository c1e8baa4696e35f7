use Rattle.sn_done.proofs.Settling.{twice}
use Rattle.sn_done.proofs.words_settle_once.Goals as goal

pub returns : goal.returns
returns c = twice
