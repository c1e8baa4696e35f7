-- The blocks so far. What the last jobs are stays.
use Rattle.std.proofs.Common.{◌≡◌}
use Rattle.sn_span.specs.Unrolling.{unrolled}
use Rattle.sn_span.proofs.blocks.jobs_of_blocks.Given as goal

abbrev pub invariant-loop-block : goal.invariant-loop-block
invariant-loop-block l = l.jobs.items ≡ unrolled l.plan l.outputs l.at l.block
