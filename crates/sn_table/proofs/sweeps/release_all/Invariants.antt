use Rattle.std.proofs.Common.{◌≡◌, ◌+◌, length, false, cond, []}
use Rattle.sn_table.proofs.sweeps.release_all.Given as goal
use Rattle.sn_table.specs.Answers.{view, IsSeatOf}
use Rattle.sn_table.specs.Sweeps.{Steady}

abbrev pub invariant-loop-more : goal.invariant-loop-more
invariant-loop-more l = record {
  seat : IsSeatOf l.shared l.seat;
  steady : Steady (view l.fn.seat) (view l.seat);
  paid : l.more ≡ false → (view l.seat).worker.debts ≡ [];
}

abbrev pub decreases-loop-more : goal.decreases-loop-more
decreases-loop-more l = length (view l.seat).worker.debts + cond l.more 1 0
