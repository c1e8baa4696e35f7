-- What was put, and what is left.
use Rattle.std.proofs.Common.{◌≡◌, ◌+◌, ◌++◌, drop}
use Rattle.std.specs.Prelude.{map}
use Rattle.sn_span.proofs.blocks.shifted.Given as goal

abbrev pub invariant-loop-job : goal.invariant-loop-job
invariant-loop-job l = l.moved ++ map (λ p. l.by + p) (drop l.job-index l.jobs) ≡ map (λ p. l.by + p) l.jobs
