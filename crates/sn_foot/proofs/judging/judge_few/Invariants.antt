-- So many are judged, by all uses as they were at first.
use Rattle.std.proofs.Common.{◌≡◌}
use Rattle.sn_foot.specs.Judging.{is_alone}
use Rattle.sn_foot.proofs.Judged.{begun}
use Rattle.sn_foot.proofs.judging.judge_few.Given as goal

abbrev pub invariant-loop-place : goal.invariant-loop-place
invariant-loop-place l = l.own ≡ begun (is_alone l.fn.own) l.place l.fn.own
