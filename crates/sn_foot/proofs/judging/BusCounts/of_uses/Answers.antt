use Rattle.sn_foot.proofs.Judged.{counted_once, long_counts}
use Rattle.sn_foot.proofs.judging.BusCounts.of_uses.Goals as goal

pub returns-clause-long : goal.returns-clause-long
returns-clause-long c = long_counts c.args.uses.now c.in_ok-counts.counts c.count_all.new.self c.in_ok-counts.ensures.long c.count_all.ensures

pub returns-clause-once : goal.returns-clause-once
returns-clause-once c = λ n lt. counted_once c.args.uses.now c.in_ok-counts.counts c.count_all.new.self c.in_ok-counts.ensures.long c.in_ok-counts.ensures.none c.count_all.ensures n lt
