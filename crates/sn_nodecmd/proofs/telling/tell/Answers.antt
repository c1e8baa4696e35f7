use Rattle.std.proofs.Common.{◌∙◌, sym}
use Rattle.sn_nodecmd.proofs.ToldLemmas.{told_here, told_nowhere, told_unheard, on_ok}
use Rattle.sn_nodecmd.proofs.telling.tell.Goals as goal

pub returns-in_default-clause-told : goal.returns-in_default-clause-told
returns-in_default-clause-told c = told_nowhere c.args.stage.now c.args.event c.args.node.now.id c.args.replies.now c.in_default.ensures

pub returns-clause-told : goal.returns-clause-told
returns-clause-told c = on_ok c.tell_of.result _ _ (λ more. told_here c.args.stage.now c.args.event c.args.node.now.id c.in-Some.view c.args.replies.now c.tell_of.new.replies c.in-Some.ensures more) c.tell_of.ensures.told

pub returns-then-not-is_heard-clause-told : goal.returns-then-not-is_heard-clause-told
returns-then-not-is_heard-clause-told c = told_unheard c.args.stage.now c.args.event c.args.node.now.id c.args.replies.now (sym c.is_heard.ensures ∙ c.if-not-is_heard.true)
