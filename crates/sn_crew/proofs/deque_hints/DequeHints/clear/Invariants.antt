use Rattle.std.proofs.Common.{◌≡◌}
use Rattle.sn_crew.proofs.deque_hints.DequeHints.clear.Given as goal

abbrev pub invariant-loop : goal.invariant-loop
invariant-loop l = l.self.counts ≡ l.fn.self.counts
