use Rattle.std.proofs.Common.{◌<◌}
use Rattle.sn_crew.proofs.widths.width.Given as goal

abbrev pub invariant-loop-job : goal.invariant-loop-job
invariant-loop-job l = 0 < l.widest
