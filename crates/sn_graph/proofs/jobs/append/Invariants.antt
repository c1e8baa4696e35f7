-- What was put, and what is left to be put.
use Rattle.std.proofs.Common.{◌≡◌, ◌++◌, drop}
use Rattle.sn_graph.proofs.jobs.append.Given as goal

abbrev pub invariant-loop-extent : goal.invariant-loop-extent
invariant-loop-extent l = l.extents.items ++ drop l.extent-index l.more ≡ l.fn.extents.items ++ l.more
