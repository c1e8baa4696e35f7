use Rattle.std.proofs.Common.{length}
use Rattle.sn_jobs.proofs.jobs.+rise.Given as goal

abbrev pub decreases-rise : goal.decreases-rise
decreases-rise l = length l.numbers.now
