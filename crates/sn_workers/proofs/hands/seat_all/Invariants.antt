use Rattle.std.proofs.Common.{◌≡◌, ◌<◌, ℕ, false, length, slice_index_or}
use Rattle.sn_table.specs.Answers.{main_view, IsMainOf}
use Rattle.sn_table.specs.Seats.{IsReady, Stands}
use Rattle.sn_workers.specs.declared.hands.Hand.{Hand}
use Rattle.sn_workers.specs.Hands.{Seated}
use Rattle.sn_workers.proofs.hands.seat_all.Given as goal

abbrev pub invariant-loop-k : goal.invariant-loop-k
invariant-loop-k g l = record {
  main : IsMainOf l.shared l.main;
  stands : Stands (main_view l.fn.main) l.k l.k (main_view l.main);
  none_joined : (main_view l.main).main.joined ≡ false;
  ready : (i : ℕ) (d : Hand) → i < l.k → Seated (IsReady l.shared (g.W.Work.jobs l.fn._work) (g.W.Work.foot_of l.fn._work) (g.W.Work.outcome l.fn._work) l.fn._plan) (slice_index_or l.hands i d).seat;
  count : length l.hands ≡ length l.fn.hands;
}
