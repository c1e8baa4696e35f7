use Rattle.sn_tree.proofs.Journaling.{closed}
use Rattle.sn_tree.proofs.OrderedLaws.{begin_answered}
use Rattle.sn_tree.proofs.tree.Tree.begin.Goals as goal

pub begin-requires : goal.begin-requires
begin-requires g c = record { closed = closed c.self.inside.root c.self.inside.payloads.slots c.self.inside.order.now c.self.inside.order.saved c.args.self.now c.self.view_is c.requires.closed }

pub invariant_of-self : goal.invariant_of-self
invariant_of-self g c = (begin_answered c.self.inside.root c.self.inside.payloads.slots c.self.inside.order c.begin.new.self c.args.self.now (record { kept = c.self.invariant; shows = c.self.view_is }) c.args.steps c.begin.result c.requires.closed c.begin.ensures.ok c.begin.ensures.err).kept

pub returns-clause-ok : goal.returns-clause-ok
returns-clause-ok g c = (begin_answered c.self.inside.root c.self.inside.payloads.slots c.self.inside.order c.begin.new.self c.args.self.now (record { kept = c.self.invariant; shows = c.self.view_is }) c.args.steps c.begin.result c.requires.closed c.begin.ensures.ok c.begin.ensures.err).ok

pub returns-clause-err : goal.returns-clause-err
returns-clause-err g c = (begin_answered c.self.inside.root c.self.inside.payloads.slots c.self.inside.order c.begin.new.self c.args.self.now (record { kept = c.self.invariant; shows = c.self.view_is }) c.args.steps c.begin.result c.requires.closed c.begin.ensures.ok c.begin.ensures.err).refused
