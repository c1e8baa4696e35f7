use Rattle.sn_quiet.proofs.Staying.{walk_stays, settled_stays}
use Rattle.sn_quiet.proofs.laws.quiet_stays.Goals as goal

pub returns : goal.returns
returns c = record { walk = walk_stays; settled = settled_stays }
