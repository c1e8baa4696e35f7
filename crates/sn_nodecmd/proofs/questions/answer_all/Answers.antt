use Rattle.std.proofs.Common.{◌≡◌, ◌∙◌, ap, take, Ok}
use Rattle.sn_world.specs.World.{turn_of}
use Rattle.sn_nodecmd.proofs.Repeating.{step_done, unless_any}
use Rattle.sn_nodecmd.proofs.TurningLemmas.{earlier-more}
use Rattle.sn_nodecmd.proofs.questions.answer_all.Goals as goal

pub returns-in_default-clause-untold : goal.returns-in_default-clause-untold
returns-in_default-clause-untold g c =
    unless_any _ (c.truncate.new.self ≡ c.args.replies.now)
    (c.truncate.ensures ∙ ap (λ n. take n c.answer.new.replies) c.len-told.ensures ∙ earlier-more c.args.replies.now c.loop-question.replies c.answer.new.replies c.loop-question.invariant.earlier c.answer.ensures.earlier)

pub loop-question-preserved : goal.loop-question-preserved
loop-question-preserved g c = record {
  row = λ words.
      step_done g.Q.Question.judge (g.Q.Question.act c.args.from) c.args.questions.now c.loop-question.question-index c.question-item.result (turn_of c.args.stage.now words c.loop-question.replies) (turn_of c.args.stage.now words c.answer.new.replies)
      c.answer.result c.loop-question-test.true c.question-item.is (c.answer.ensures.row words) (c.in-Ok-None.is ∙ ap Ok c.in-Ok-None.field-0-is) ∙ c.loop-question.invariant.row words;
  earlier = earlier-more c.args.replies.now c.loop-question.replies c.answer.new.replies c.loop-question.invariant.earlier c.answer.ensures.earlier;
}
