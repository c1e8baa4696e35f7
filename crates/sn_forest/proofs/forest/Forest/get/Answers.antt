use Rattle.sn_forest.proofs.Reading.{told_value}
use Rattle.sn_forest.proofs.forest.Forest.get.Goals as goal

pub returns-in-Some : goal.returns-in-Some
returns-in-Some g c = told_value c.self.inside.slots.slots c.self.inside.root c.self.inside.end c.args.self.now c.self.invariant c.self.view_is c.args.key _ c.in-Some.ensures

pub returns-in-None : goal.returns-in-None
returns-in-None g c = told_value c.self.inside.slots.slots c.self.inside.root c.self.inside.end c.args.self.now c.self.invariant c.self.view_is c.args.key _ c.in-None.ensures
