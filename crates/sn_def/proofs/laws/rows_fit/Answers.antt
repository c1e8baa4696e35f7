use Rattle.sn_def.proofs.RowLaws.{row_fits}
use Rattle.sn_def.proofs.laws.rows_fit.Goals as goal

pub returns : goal.returns
returns c = row_fits
