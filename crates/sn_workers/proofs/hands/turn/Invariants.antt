use Rattle.sn_table.specs.Seats.{IsReady}
use Rattle.sn_workers.proofs.hands.turn.Given as goal

abbrev pub invariant-loop-job : goal.invariant-loop-job
invariant-loop-job g l = IsReady l.shared (g.W.Work.jobs l.work) (g.W.Work.foot_of l.work) (g.W.Work.outcome l.work) l.plan l.seat
