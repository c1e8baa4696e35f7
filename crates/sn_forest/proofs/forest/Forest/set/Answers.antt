use Rattle.sn_forest.proofs.Calls.{set_at}
use Rattle.sn_forest.proofs.forest.Forest.set.Goals as goal

pub invariant_of-self : goal.invariant_of-self
invariant_of-self g c = (set_at c.self.inside.slots c.hold.new.slots c.self.inside.root c.self.inside.end c.args.key c.args.value c.args.self.now c.self.invariant c.self.view_is c.requires c.hold.ensures).sound

pub returns : goal.returns
returns g c = (set_at c.self.inside.slots c.hold.new.slots c.self.inside.root c.self.inside.end c.args.key c.args.value c.args.self.now c.self.invariant c.self.view_is c.requires c.hold.ensures).is
