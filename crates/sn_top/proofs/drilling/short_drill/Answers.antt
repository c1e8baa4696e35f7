use Rattle.sn_top.proofs.DrillLemmas.{last_is, not_long}
use Rattle.sn_top.proofs.drilling.short_drill.Goals as goal

pub returns : goal.returns
returns c = λ s seed blocks some few. (last_is s seed blocks some, not_long s blocks few)
