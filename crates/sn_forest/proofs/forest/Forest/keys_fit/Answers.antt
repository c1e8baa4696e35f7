use Rattle.sn_forest.proofs.Calls.{small_shown}
use Rattle.sn_forest.proofs.forest.Forest.keys_fit.Goals as goal

pub returns : goal.returns
returns g c = small_shown c.self.inside.slots.slots c.self.inside.root c.self.inside.end c.args.self.now c.self.invariant c.self.view_is
