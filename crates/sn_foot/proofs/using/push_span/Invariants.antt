-- So many are put.
use Rattle.std.proofs.Common.{◌≡◌}
use Rattle.sn_foot.specs.Putting.{put_span}
use Rattle.sn_foot.proofs.using.push_span.Given as goal

abbrev pub invariant-loop-more : goal.invariant-loop-more
invariant-loop-more l = l.uses.items ≡ put_span l.role l.bank l.first l.more l.fn.uses.items
