use Rattle.sn_quiet.proofs.QuietSettles.{quiet_settles}
use Rattle.sn_quiet.proofs.laws.quiet_blocks_settle.Goals as goal

pub returns : goal.returns
returns c = quiet_settles
