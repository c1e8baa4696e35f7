use Rattle.std.proofs.Common.{◌∙◌, Bool, true, false, refl, ap}
use Rattle.sn_tree.specs.declared.node.NodeKind.{NodeKind}
use Rattle.sn_tree.specs.Trees.{none}
use Rattle.sn_world.specs.NewNodes.{action_for, group_kind, next_after, replaces}
use Rattle.sn_world.specs.Pictures.{KindAgrees}
use Rattle.sn_world.specs.declared.stage.Held.TheVariants as held
use Rattle.sn_nodecmd.specs.Adding.{added}
use Rattle.sn_nodecmd.proofs.Stepping.{group_made, keeps_group}
use Rattle.sn_nodecmd.proofs.ToldLemmas.{on_ok}
use Rattle.sn_nodecmd.proofs.groups.make_group.Goals as goal

group_agrees : (parallel : Bool) → KindAgrees (group_kind parallel) held.Group none
group_agrees true = refl
group_agrees false = refl

pub returns-clause-row : goal.returns-clause-row
returns-clause-row c =
    let put = λ (k : NodeKind). added (replaces c.args.group.now.node.action) c.args.node.now.id k (action_for c.args.group.now.node.action) c.args.group.now.node.target held.Group c.args.stage.now.tree in
    on_ok c.tell.result _ _
    (λ told_now. group_made c.args.stage.now _ (group_kind c.args.group.now.parallel) c.args.group.now.node c.args.node.now.id c.args.replies.now c.tell_replaced.new.replies c.tell.new.replies c.in_ok-tell_replaced.ensures.told
    (λ i. record c.args.stage.now { tree = (c.in_ok-add.ensures.ok ∙ ap put c.group_kind-kind.ensures) i; next_id = c.next_after-stage.ensures i }) told_now)
    c.tell.ensures.told

pub returns-clause-keeps : goal.returns-clause-keeps
returns-clause-keeps c =
    let put = λ (k : NodeKind). added (replaces c.args.group.now.node.action) c.args.node.now.id k (action_for c.args.group.now.node.action) c.args.group.now.node.target held.Group c.args.stage.now.tree in
    keeps_group c.args.stage.now _ (group_kind c.args.group.now.parallel) c.args.node.now.id c.args.group.now.node.action c.args.group.now.node.target (next_after c.args.stage.now.next_id c.args.group.now.node.id)
    (group_agrees c.args.group.now.parallel) c.requires.allowed
    (λ i. record c.args.stage.now { tree = (c.in_ok-add.ensures.ok ∙ ap put c.group_kind-kind.ensures) i; next_id = c.next_after-stage.ensures i })
