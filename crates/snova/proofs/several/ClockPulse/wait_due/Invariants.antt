-- No 0 was counted so far.
use Rattle.std.proofs.Common.{◌≡◌}
use Rattle.snova.proofs.several.ClockPulse.wait_due.Given as goal

abbrev pub invariant-loop : goal.invariant-loop
invariant-loop g l = l.self.zeros ≡ l.fn.self.zeros
