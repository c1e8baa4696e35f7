use Rattle.sn_tree.proofs.StepLaws.{shift_followed}
use Rattle.sn_tree.proofs.steps.shift_node.Goals as goal

pub returns-clause-ready : goal.returns-clause-ready
returns-clause-ready c =
    (shift_followed c.args.store.now c.shift.new.self c.args.key c.args.place c.place-stood.result c.args.journal.now c.follow.new.journal c.keys_differ.ensures c.is_sound.ensures c.requires.node c.requires.place c.requires.ready c.place-stood.ensures c.follow.ensures c.shift.ensures).ready

pub returns-clause-saved : goal.returns-clause-saved
returns-clause-saved c =
    (shift_followed c.args.store.now c.shift.new.self c.args.key c.args.place c.place-stood.result c.args.journal.now c.follow.new.journal c.keys_differ.ensures c.is_sound.ensures c.requires.node c.requires.place c.requires.ready c.place-stood.ensures c.follow.ensures c.shift.ensures).kept
