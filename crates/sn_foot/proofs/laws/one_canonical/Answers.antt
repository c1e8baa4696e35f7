use Rattle.sn_foot.proofs.Runs.{unique}
use Rattle.sn_foot.proofs.laws.one_canonical.Goals as goal

pub returns : goal.returns
returns c = λ first second one other words. unique 0 first second one other words
