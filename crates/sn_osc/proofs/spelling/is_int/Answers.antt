use Rattle.std.proofs.Common.{sym}
use Rattle.sn_osc.proofs.Fields.{test-from_fits}
use Rattle.sn_osc.proofs.spelling.is_int.Goals as goal

pub returns : goal.returns
returns c = sym (test-from_fits c.args.n c.ranges.n)
