use Rattle.sn_def.proofs.Whole.{in_grammar}
use Rattle.sn_def.proofs.Complete.{is_read}
use Rattle.sn_def.proofs.laws.lines_are_read.Goals as goal

pub returns-clause-sound : goal.returns-clause-sound
returns-clause-sound c = in_grammar

pub returns-clause-complete : goal.returns-clause-complete
returns-clause-complete c = is_read c.literal_bytes.ensures
