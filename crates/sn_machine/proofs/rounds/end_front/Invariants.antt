use Rattle.std.proofs.Common.{◌≡◌}
use Rattle.sn_machine.specs.Steps.{ended_front}
use Rattle.sn_machine.proofs.rounds.end_front.Given as goal

abbrev pub invariant-loop-job : goal.invariant-loop-job
invariant-loop-job l = l.counts ≡ ended_front l.job l.fn.counts
