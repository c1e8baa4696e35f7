use Rattle.std.proofs.Common.{◌≡◌, length}
use Rattle.sn_crew.proofs.opening.open_deques.Given as goal

abbrev pub invariant-loop-worker : goal.invariant-loop-worker
invariant-loop-worker l = length l.deques.items ≡ l._worker
