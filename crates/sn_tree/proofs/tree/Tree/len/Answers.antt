use Rattle.std.proofs.Common.{◌∙◌, arith}
use Rattle.sn_tree.proofs.Showing.{count_shown}
use Rattle.sn_tree.proofs.Gathering.{root_counts}
use Rattle.sn_tree.proofs.tree.Tree.len.Goals as goal

pub returns-clause-value : goal.returns-clause-value
returns-clause-value g c = c.len.ensures.value ∙ count_shown c.self.inside.root c.self.inside.payloads.slots c.self.inside.order.now c.self.inside.order.saved c.args.self.now c.self.view_is

pub returns-clause-some : goal.returns-clause-some
returns-clause-some g c = omega (arith, c.len.ensures.value, root_counts c.self.inside.order.now.attached c.self.invariant.rooted)
