-- What was put, and what is left to be put.
use Rattle.std.proofs.Common.{◌≡◌, ◌++◌, drop}
use Rattle.sn_mem.specs.Lanes.{lanes_in}
use Rattle.sn_graph.proofs.jobs.append_lanes.Given as goal

abbrev pub invariant-loop-moved : goal.invariant-loop-moved
invariant-loop-moved l = l.extents.items ++ lanes_in (drop l.moved-index l.moves) ≡ l.fn.extents.items ++ lanes_in l.moves
