use Rattle.std.proofs.Common.{◌∙◌, sym}
use Rattle.sn_nodecmd.proofs.EmptyingLemmas.{nothing_freed}
use Rattle.sn_nodecmd.proofs.emptying.free_one.Goals as goal

pub returns-then-not-is_attached-clause-row : goal.returns-then-not-is_attached-clause-row
returns-then-not-is_attached-clause-row c = λ words. nothing_freed c.args.stage.now c.args.node.now.id c.args.replies.now words (sym c.is_attached.ensures ∙ c.if-not-is_attached.true)
