use Rattle.std.proofs.Common.{reverse}
use Rattle.sn_tree.proofs.OrderedLaws.{undo_stands, nothing_open}
use Rattle.sn_tree.proofs.tree.Tree.undo.Goals as goal

pub invariant_of-self : goal.invariant_of-self
invariant_of-self g c = (undo_stands c.self.inside.root c.self.inside.payloads.slots c.remove_all.new.payloads.slots c.self.inside.order.now c.self.inside.order.saved c.undo.new.self (reverse c.in-Some.made.items) c.args.self.now c.self.invariant c.self.view_is c.in-Some.ensures.made c.in-Some.ensures.nodes c.remove_all.ensures.others c.remove_all.ensures.dropped).kept

pub returns-in-Some : goal.returns-in-Some
returns-in-Some g c = (undo_stands c.self.inside.root c.self.inside.payloads.slots c.remove_all.new.payloads.slots c.self.inside.order.now c.self.inside.order.saved c.undo.new.self (reverse c.in-Some.made.items) c.args.self.now c.self.invariant c.self.view_is c.in-Some.ensures.made c.in-Some.ensures.nodes c.remove_all.ensures.others c.remove_all.ensures.dropped).shows

pub invariant_of-self-in-None : goal.invariant_of-self-in-None
invariant_of-self-in-None g c = absurd (nothing_open c.self.inside.root c.self.inside.payloads.slots c.self.inside.order.now c.self.inside.order.saved c.args.self.now c.self.view_is c.in-None.ensures.made c.requires.open)

pub returns-in-None : goal.returns-in-None
returns-in-None g c = absurd (nothing_open c.self.inside.root c.self.inside.payloads.slots c.self.inside.order.now c.self.inside.order.saved c.args.self.now c.self.view_is c.in-None.ensures.made c.requires.open)
