use Rattle.sn_tree.proofs.StepLaws.{run_followed}
use Rattle.sn_tree.proofs.steps.run_node.Goals as goal

pub returns-clause-ready : goal.returns-clause-ready
returns-clause-ready c =
    (run_followed c.args.store.now c.set_run.new.self c.args.key c.args.on c.is_running-was.result c.args.journal.now c.follow.new.journal c.keys_differ.ensures c.requires.node c.requires.ready c.is_running-was.ensures c.follow.ensures c.set_run.ensures).ready

pub returns-clause-saved : goal.returns-clause-saved
returns-clause-saved c =
    (run_followed c.args.store.now c.set_run.new.self c.args.key c.args.on c.is_running-was.result c.args.journal.now c.follow.new.journal c.keys_differ.ensures c.requires.node c.requires.ready c.is_running-was.ensures c.follow.ensures c.set_run.ensures).kept
