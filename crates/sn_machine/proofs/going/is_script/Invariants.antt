use Rattle.std.proofs.Common.{◌≡◌, ◌+◌, ◌<◌, ◌≤◌, ℕ, false, length}
use Rattle.sn_mem.specs.Words.{writes}
use Rattle.sn_round.specs.Jobs.{foot_at}
use Rattle.sn_round.specs.Scripts.{list_at, word_at}
use Rattle.sn_machine.proofs.going.is_script.Given as goal

-- the lists so far are of one length, and each is as the one before outside what its job may write
abbrev pub invariant-loop-job : goal.invariant-loop-job
invariant-loop-job l = record {
  wide : (i : ℕ) → i ≤ l.job → length (list_at l.script i) ≡ l.size;
  still : (i x : ℕ) → i < l.job → writes (foot_at l.plan i) x ≡ false → word_at l.script (i + 1) x ≡ word_at l.script i x;
}
