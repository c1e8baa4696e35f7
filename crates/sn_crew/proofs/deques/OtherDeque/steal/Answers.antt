use Rattle.sn_crew.proofs.Moves.{takes}
use Rattle.sn_crew.proofs.deques.OtherDeque.steal.Goals as goal

pub steal_as-requires-clause-takes : goal.steal_as-requires-clause-takes
steal_as-requires-clause-takes c = takes _ _ 1
