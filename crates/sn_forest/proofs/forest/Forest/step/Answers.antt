use Rattle.sn_forest.proofs.Climbing.{step_first, step_past, not_linked}
use Rattle.sn_forest.proofs.forest.Forest.step.Goals as goal

pub returns-in_default : goal.returns-in_default
returns-in_default g c = absurd (not_linked c.args.self.now c.args.top c.args.key c.keys_differ.ensures c.requires.top c.requires.node c.in_default.ensures)

pub returns-in-Some-first : goal.returns-in-Some-first
returns-in-Some-first g c = step_first c.args.self.now c.args.top c.args.key c.in-Some.links c.in-Some-first.first c.keys_differ.ensures c.requires.top c.requires.node c.in-Some.ensures c.in-Some-first.is

pub returns-in-None : goal.returns-in-None
returns-in-None g c = step_past c.args.self.now c.args.top c.args.key c.in-Some.links c.past.result c.keys_differ.ensures c.requires.top c.requires.node c.in-Some.ensures c.in-None.is c.past.ensures
