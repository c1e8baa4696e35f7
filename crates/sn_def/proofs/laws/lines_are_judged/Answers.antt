use Rattle.sn_def.proofs.Judging.{def_judged, line_judged}
use Rattle.sn_def.proofs.laws.lines_are_judged.Goals as goal

pub returns-clause-named : goal.returns-clause-named
returns-clause-named c = def_judged

pub returns-clause-lines : goal.returns-clause-lines
returns-clause-lines c = line_judged
