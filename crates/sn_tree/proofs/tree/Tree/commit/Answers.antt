use Rattle.sn_tree.proofs.OrderedLaws.{commit_stands}
use Rattle.sn_tree.proofs.tree.Tree.commit.Goals as goal

pub invariant_of-self : goal.invariant_of-self
invariant_of-self g c = (commit_stands c.self.inside.root c.self.inside.payloads.slots c.self.inside.order c.commit.new.self c.args.self.now (record { kept = c.self.invariant; shows = c.self.view_is }) c.commit.ensures).kept

pub returns : goal.returns
returns g c = (commit_stands c.self.inside.root c.self.inside.payloads.slots c.self.inside.order c.commit.new.self c.args.self.now (record { kept = c.self.invariant; shows = c.self.view_is }) c.commit.ensures).shows
