use Rattle.std.proofs.Common.{◌∙◌, ap, Some}
use Rattle.sn_world.specs.World.{turn_of}
use Rattle.sn_nodecmd.proofs.Repeating.{few_some, row_read}
use Rattle.sn_nodecmd.proofs.folding.run.Goals as goal

pub each-requires-clause-few : goal.each-requires-clause-few
each-requires-clause-few g c = few_some _ c.deref.result.now (ap Some c.deref.ensures.value ∙ c.in-Some.ensures) c.requires.few

pub returns-clause-row : goal.returns-clause-row
returns-clause-row g c = λ words.
    row_read g.R.Repetition.judge g.R.Repetition.act _ c.deref.result.now c.each.result (turn_of c.args.stage.now words c.args.replies.now) (turn_of c.each.new.stage words c.each.new.replies)
    (ap Some c.deref.ensures.value ∙ c.in-Some.ensures) (c.each.ensures.row words)
