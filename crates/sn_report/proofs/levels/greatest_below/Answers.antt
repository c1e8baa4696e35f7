use Rattle.std.proofs.Common.{ap, arith}
use Rattle.sn_report.specs.Certificates.{greatest_of}
use Rattle.sn_report.proofs.LevelLemmas.{below_more}
use Rattle.sn_report.proofs.levels.greatest_below.Goals as goal

pub loop-job-preserved : goal.loop-job-preserved
loop-job-preserved c =
    let next = ap (greatest_of c.args.levels.now) (below_more c.loop-job.job) in
    omega (arith, next, c.max-greatest.ensures, c.level_at.ensures, c.loop-job.invariant)
