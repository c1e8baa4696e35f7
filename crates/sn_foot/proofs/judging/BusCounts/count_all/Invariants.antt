-- What the uses that are left make of the counts is what all of them made of the first.
use Rattle.std.proofs.Common.{◌≡◌, drop}
use Rattle.sn_foot.specs.Judging.{counted_all}
use Rattle.sn_foot.proofs.judging.BusCounts.count_all.Given as goal

abbrev pub invariant-loop-used : goal.invariant-loop-used
invariant-loop-used l = counted_all (drop l.used-index l.uses) l.self ≡ counted_all l.uses l.fn.self
