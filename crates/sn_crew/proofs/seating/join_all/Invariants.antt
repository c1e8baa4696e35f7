use Rattle.std.proofs.Common.{◌≡◌, ◌<◌, ◌≤◌, ◌-◌, ℕ, true, length, slice_index_or, All}
use Rattle.sn_table.specs.Answers.{main_view, IsMainOf}
use Rattle.sn_table.specs.Seats.{IsBack, Stands}
use Rattle.sn_crew.specs.declared.hands.Hand.{Hand}
use Rattle.sn_crew.specs.Hands.{Seated, deques_of}
use Rattle.sn_crew.proofs.seating.join_all.Given as goal

abbrev pub invariant-loop-k : goal.invariant-loop-k
invariant-loop-k l = record {
  main : IsMainOf l.shared l.main;
  deques : All (λ hand. deques_of hand ≡ length l.fn.hands) l.hands;
  stands : Stands (main_view l.fn.main) (length l.fn.hands) (length l.fn.hands - l.k) (main_view l.main);
  joined : 0 < l.k → (main_view l.main).main.joined ≡ true;
  back : (i : ℕ) (d : Hand) → l.k ≤ i → i < length l.fn.hands → Seated (IsBack l.shared) (slice_index_or l.hands i d).seat;
  count : length l.hands ≡ length l.fn.hands;
}
