use Rattle.std.proofs.Common.{subst, sym}
use Rattle.sn_tree.specs.Steps.{HasRoom}
use Rattle.sn_stages.proofs.plans.pause.Goals as goal

pub set_run-requires : goal.set_run-requires
set_run-requires c = record { room = subst HasRoom (sym c.requires.closed) tt }
