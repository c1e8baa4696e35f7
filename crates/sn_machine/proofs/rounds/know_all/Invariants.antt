use Rattle.std.proofs.Common.{◌<◌, ℕ}
use Rattle.std.specs.Prelude.{Contains}
use Rattle.sn_machine.proofs.rounds.know_all.Given as goal

abbrev pub invariant-loop-job : goal.invariant-loop-job
invariant-loop-job l = (j : ℕ) → j < l.job-counter → Contains l.ended j
