-- The jobs so far.
use Rattle.std.proofs.Common.{◌≡◌, ◌++◌}
use Rattle.sn_mem.specs.Blocks.{table}
use Rattle.sn_span.specs.Unrolling.{job_in}
use Rattle.sn_span.proofs.blocks.put_jobs.Given as goal

abbrev pub invariant-loop-job : goal.invariant-loop-job
invariant-loop-job l = l.jobs.items ≡ l.fn.jobs.items ++ table (job_in l.plan l.block) l.job
