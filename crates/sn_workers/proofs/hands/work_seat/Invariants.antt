use Rattle.sn_table.specs.Seats.{IsReady}
use Rattle.sn_workers.proofs.hands.work_seat.Given as goal

abbrev pub invariant-loop : goal.invariant-loop
invariant-loop g l = IsReady l.shared (g.W.Work.jobs l.work) (g.W.Work.foot_of l.work) (g.W.Work.outcome l.work) l.plan l.seat
