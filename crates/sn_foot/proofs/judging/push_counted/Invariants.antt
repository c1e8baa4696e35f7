-- What was put, and what is put of the uses that are left.
use Rattle.std.proofs.Common.{◌≡◌, ◌++◌, drop}
use Rattle.sn_foot.specs.Judging.{is_counted, judged}
use Rattle.sn_foot.proofs.judging.push_counted.Given as goal

abbrev pub invariant-loop-used : goal.invariant-loop-used
invariant-loop-used l = l.uses.items ++ judged (is_counted l.counts) (drop l.used-index l.own) ≡ l.fn.uses.items ++ judged (is_counted l.counts) l.own
