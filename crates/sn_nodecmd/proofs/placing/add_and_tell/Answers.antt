use Rattle.std.proofs.Common.{◌∙◌, ap, sym}
use Rattle.sn_tree.specs.Trees.{view_of}
use Rattle.sn_world.specs.World.{Turn}
use Rattle.sn_world.specs.declared.notices.NodeEvent.TheVariants.{Went}
use Rattle.sn_nodecmd.specs.Telling.{told_replies}
use Rattle.sn_nodecmd.proofs.ToldLemmas.{unheard_replies}
use Rattle.sn_nodecmd.proofs.placing.add_and_tell.Goals as goal

pub returns-then-not-is_heard-clause-told : goal.returns-then-not-is_heard-clause-told
returns-then-not-is_heard-clause-told c = λ w same.
    let flags = c.args.flags.now in
    let view = view_of c.args.node.now.id c.add.new.tree.attached in
    sym (
    ap (λ (t : Turn). told_replies Went c.args.node.now.id view flags t.replies) (c.in_ok-tell_replaced.ensures.told w same)
    ∙ unheard_replies Went c.args.node.now.id view flags c.tell_replaced.new.replies (sym c.is_heard.ensures ∙ c.if-not-is_heard.true))
