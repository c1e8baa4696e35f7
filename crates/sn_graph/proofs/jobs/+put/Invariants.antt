-- What was put, and what the nodes that are left put.
use Rattle.std.proofs.Common.{[], ◌+◌, ◌*◌, ◌≤◌, ◌++◌}
use Rattle.sn_graph.specs.Voices.{AreWithin, JointsEnd, voices}
use Rattle.sn_graph.specs.Plans.{row_of, rows_of}
use Rattle.sn_graph.specs.Inputs.{nodes_of}
use Rattle.sn_graph.proofs.Shapes.{weight}
use Rattle.sn_graph.proofs.Drafting.{behind, Leaves, LeavesAll}
use Rattle.sn_graph.proofs.jobs.+put.Given as goal

abbrev pub invariant-put_members-loop-rest : goal.invariant-put_members-loop-rest
invariant-put_members-loop-rest l = record {
  less : weight (nodes_of l.rest) ≤ weight (nodes_of l.fn.inner);
  left : LeavesAll l.initial.jobs.items l.jobs.items l.lasts l.entry (rows_of (nodes_of l.rest)) (rows_of (nodes_of l.fn.inner));
  within : AreWithin (voices (nodes_of l.rest));
  joints : JointsEnd (nodes_of l.rest);
}

abbrev pub invariant-put_row-loop-rest : goal.invariant-put_row-loop-rest
invariant-put_row-loop-rest l = record {
  less : weight (nodes_of l.rest) ≤ weight (nodes_of l.fn.nodes);
  left : Leaves l.initial.jobs.items l.jobs.items l.fn.entry l.last (row_of (behind l.run.items) (nodes_of l.rest)) (row_of [] (nodes_of l.fn.nodes));
  within : AreWithin (behind l.run.items ++ voices (nodes_of l.rest));
  joints : JointsEnd (nodes_of l.rest);
}

abbrev pub decreases-put_row : goal.decreases-put_row
decreases-put_row l = 2 * weight (nodes_of l.nodes.now)

abbrev pub decreases-put_group : goal.decreases-put_group
decreases-put_group l = 2 * weight (nodes_of l.inner.now) + 1

abbrev pub decreases-put_members : goal.decreases-put_members
decreases-put_members l = 2 * weight (nodes_of l.inner.now)
