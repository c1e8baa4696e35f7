-- The jobs so far were put in the lists of their predecessors.
use Rattle.std.proofs.Common.{drop}
use Rattle.sn_round.proofs.Inverses.{Inverts}
use Rattle.sn_round.proofs.successors.successors_of.Given as goal

abbrev pub invariant-loop-number : goal.invariant-loop-number
invariant-loop-number l = Inverts l.jobs l.number (drop l.number l.jobs) l.after.items
