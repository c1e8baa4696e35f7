-- The last jobs so far.
use Rattle.std.proofs.Common.{◌≡◌}
use Rattle.sn_span.proofs.Lasts.{ends, passing}
use Rattle.sn_span.proofs.blocks.last_jobs.Given as goal

abbrev pub invariant-loop-job : goal.invariant-loop-job
invariant-loop-job l = l.last ≡ passing (ends l.plan) l.job
