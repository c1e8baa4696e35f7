use Rattle.std.proofs.Common.{ap}
use Rattle.sn_tree.specs.Model.{NodeTree}
use Rattle.sn_tree.specs.Steps.{detached}
use Rattle.sn_world.specs.declared.stage.Held.{Held}
use Rattle.sn_world.specs.declared.stage.Stage.{Stage}
use Rattle.sn_nodecmd.proofs.Stepping.{freed_is, keeps_with, keeps_detached}
use Rattle.sn_nodecmd.proofs.EmptyingLemmas.{spares_detached, spares_tree}
use Rattle.sn_nodecmd.proofs.freeing.free_node.Goals as goal

pub returns-clause-row : goal.returns-clause-row
returns-clause-row c =
    freed_is c.args.stage.now _ c.args.node.now.id c.args.replies.now c.tell_all_end.new.replies
    (ap (λ (t : NodeTree Held). let s : Stage = record c.args.stage.now { tree = t } in s) c.detach.ensures)
    (λ w same. c.in_ok-tell_all_end.ensures.told w same)

pub returns-clause-keeps : goal.returns-clause-keeps
returns-clause-keeps c =
    keeps_with c.args.stage.now _ (detached c.args.node.now.id c.args.stage.now.tree) c.args.stage.now.next_id (keeps_detached c.args.node.now.id c.args.stage.now.tree)
    (ap (λ (t : NodeTree Held). let s : Stage = record c.args.stage.now { tree = t } in s) c.detach.ensures)

pub returns-clause-spares : goal.returns-clause-spares
returns-clause-spares c =
    spares_tree c.args.stage.now.tree c.detach.new.tree (detached c.args.node.now.id c.args.stage.now.tree) c.detach.ensures (spares_detached c.args.node.now.id c.args.stage.now.tree c.requires.allowed)
