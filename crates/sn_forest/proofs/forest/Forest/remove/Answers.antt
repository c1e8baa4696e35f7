use Rattle.sn_forest.proofs.Calls.{removed_at, still_there}
use Rattle.sn_forest.proofs.forest.Forest.remove.Goals as goal

pub remove-value-requires : goal.remove-value-requires
remove-value-requires g c =
    still_there c.self.inside.slots c.cut.new.slots c.self.inside.root c.self.inside.end c.cut.new.end c.args.key c.links_at-links.result c.args.self.now c.self.invariant c.self.view_is c.requires.node c.requires.inner c.links_at-links.ensures c.cut.ensures.slots c.cut.ensures.end

pub invariant_of-self : goal.invariant_of-self
invariant_of-self g c = (removed_at c.self.inside.slots c.cut.new.slots c.remove-value.new.self c.self.inside.root c.self.inside.end c.cut.new.end c.args.key c.links_at-links.result c.remove-value.result c.args.self.now c.self.invariant c.self.view_is c.requires.node c.requires.inner c.requires.leaf c.links_at-links.ensures c.cut.ensures.slots c.cut.ensures.end c.remove-value.ensures.value c.remove-value.ensures.updates c.remove-value.ensures.len).rest.sound

pub returns-clause-value : goal.returns-clause-value
returns-clause-value g c = (removed_at c.self.inside.slots c.cut.new.slots c.remove-value.new.self c.self.inside.root c.self.inside.end c.cut.new.end c.args.key c.links_at-links.result c.remove-value.result c.args.self.now c.self.invariant c.self.view_is c.requires.node c.requires.inner c.requires.leaf c.links_at-links.ensures c.cut.ensures.slots c.cut.ensures.end c.remove-value.ensures.value c.remove-value.ensures.updates c.remove-value.ensures.len).value

pub returns-clause-rest : goal.returns-clause-rest
returns-clause-rest g c = (removed_at c.self.inside.slots c.cut.new.slots c.remove-value.new.self c.self.inside.root c.self.inside.end c.cut.new.end c.args.key c.links_at-links.result c.remove-value.result c.args.self.now c.self.invariant c.self.view_is c.requires.node c.requires.inner c.requires.leaf c.links_at-links.ensures c.cut.ensures.slots c.cut.ensures.end c.remove-value.ensures.value c.remove-value.ensures.updates c.remove-value.ensures.len).rest.is
