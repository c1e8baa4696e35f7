use Rattle.sn_forest.proofs.Calls.{moved_to}
use Rattle.sn_forest.proofs.forest.Forest.move_to.Goals as goal

pub invariant_of-self : goal.invariant_of-self
invariant_of-self g c = (moved_to c.self.inside.slots c.cut.new.slots c.paste.new.slots c.self.inside.root c.self.inside.end c.cut.new.end c.paste.new.end c.args.key c.args.place c.links_at-links.result c.corner-corner.result c.args.self.now c.self.invariant c.self.view_is c.requires.node c.requires.inner c.requires.place c.links_at-links.ensures c.cut.ensures.slots c.cut.ensures.end c.corner-corner.ensures c.paste.ensures.slots c.paste.ensures.end).sound

pub returns : goal.returns
returns g c = (moved_to c.self.inside.slots c.cut.new.slots c.paste.new.slots c.self.inside.root c.self.inside.end c.cut.new.end c.paste.new.end c.args.key c.args.place c.links_at-links.result c.corner-corner.result c.args.self.now c.self.invariant c.self.view_is c.requires.node c.requires.inner c.requires.place c.links_at-links.ensures c.cut.ensures.slots c.cut.ensures.end c.corner-corner.ensures c.paste.ensures.slots c.paste.ensures.end).is
