use Rattle.std.proofs.Common.{◌∙◌, sym, subst}
use Rattle.sn_tree.specs.Ordered.{IsReady}
use Rattle.sn_tree.proofs.StepLaws.{insert_followed, insert_undone}
use Rattle.sn_tree.proofs.steps.insert_node.Goals as goal

pub remove-requires-clause-node : goal.remove-requires-clause-node
remove-requires-clause-node c = (insert_undone c.args.store.now c.insert.new.self c.in_ok-node.node c.args.place c.args.item.now c.keys_differ.ensures c.in_ok-node.ensures.fresh c.requires.place.0 c.in_ok-node.ensures.ok).0.used

pub remove-requires-clause-inner : goal.remove-requires-clause-inner
remove-requires-clause-inner c = (insert_undone c.args.store.now c.insert.new.self c.in_ok-node.node c.args.place c.args.item.now c.keys_differ.ensures c.in_ok-node.ensures.fresh c.requires.place.0 c.in_ok-node.ensures.ok).0.inner

pub remove-requires-clause-leaf : goal.remove-requires-clause-leaf
remove-requires-clause-leaf c = (insert_undone c.args.store.now c.insert.new.self c.in_ok-node.node c.args.place c.args.item.now c.keys_differ.ensures c.in_ok-node.ensures.fresh c.requires.place.0 c.in_ok-node.ensures.ok).1

pub returns-in-Ok-clause-ready : goal.returns-in-Ok-clause-ready
returns-in-Ok-clause-ready c =
    (insert_followed c.args.store.now c.insert.new.self c.in_ok-node.node c.args.place c.args.item.now c.args.key c.args.journal.now c.follow_new.new.journal c.keys_differ.ensures c.in_ok-node.ensures.fresh c.requires.place.0 c.requires.ready c.in_ok-node.ensures.ok c.in-Ok.ensures.ok).ready

pub returns-in-Ok-clause-saved : goal.returns-in-Ok-clause-saved
returns-in-Ok-clause-saved c =
    (insert_followed c.args.store.now c.insert.new.self c.in_ok-node.node c.args.place c.args.item.now c.args.key c.args.journal.now c.follow_new.new.journal c.keys_differ.ensures c.in_ok-node.ensures.fresh c.requires.place.0 c.requires.ready c.in_ok-node.ensures.ok c.in-Ok.ensures.ok).kept

pub returns-in-Err-clause-err_nodes : goal.returns-in-Err-clause-err_nodes
returns-in-Err-clause-err_nodes c =
    c.remove.ensures.rest ∙ (insert_undone c.args.store.now c.insert.new.self c.in_ok-node.node c.args.place c.args.item.now c.keys_differ.ensures c.in_ok-node.ensures.fresh c.requires.place.0 c.in_ok-node.ensures.ok).2

pub returns-in_err-node-clause-ready : goal.returns-in_err-node-clause-ready
returns-in_err-node-clause-ready c = subst (λ t. IsReady t c.args.journal.now) (sym c.in_err-node.ensures.err) c.requires.ready

pub returns-in-Err-clause-ready : goal.returns-in-Err-clause-ready
returns-in-Err-clause-ready c =
    let back = c.remove.ensures.rest ∙ (insert_undone c.args.store.now c.insert.new.self c.in_ok-node.node c.args.place c.args.item.now c.keys_differ.ensures c.in_ok-node.ensures.fresh c.requires.place.0 c.in_ok-node.ensures.ok).2 in
    subst (λ j. IsReady c.remove.new.self j) (sym c.in-Err.ensures.err) (subst (λ t. IsReady t c.args.journal.now) (sym back) c.requires.ready)
