-- The first clients were told.
use Rattle.sn_settle.proofs.Sending.{AreFirst}
use Rattle.sn_settle.proofs.telling.tell.Given as goal

abbrev pub invariant-loop-client : goal.invariant-loop-client
invariant-loop-client l = AreFirst l.flags l.event l.fn.outs l.outs l.client
