use Rattle.std.proofs.Common.{inr, refl, subst}
use Rattle.sn_render.specs.Outcomes.{Writes}
use Rattle.sn_top.proofs.ByWordsLemmas.{by_words}
use Rattle.sn_top.proofs.rendering.run.Goals as goal

pub returns-in-Ok-clause-done : goal.returns-in-Ok-clause-done
returns-in-Ok-clause-done g c = λ n done. (c.in-Ok.chosen, c.in-Ok.ensures.ok, c.render.ensures.done n done)

pub returns-in-Ok-clause-answer : goal.returns-in-Ok-clause-answer
returns-in-Ok-clause-answer g c = by_words c.args.words.now c.in-Ok.chosen _ c.in-Ok.ensures.ok c.render.ensures.answer

pub returns-in-Ok-clause-complete : goal.returns-in-Ok-clause-complete
returns-in-Ok-clause-complete g c = by_words c.args.words.now c.in-Ok.chosen _ c.in-Ok.ensures.ok c.render.ensures.complete

pub returns-in-Ok-clause-source_unfailed : goal.returns-in-Ok-clause-source_unfailed
returns-in-Ok-clause-source_unfailed g c = c.render.ensures.source_unfailed

pub returns-in-Ok-clause-sound_unfailed : goal.returns-in-Ok-clause-sound_unfailed
returns-in-Ok-clause-sound_unfailed g c = c.render.ensures.sound_unfailed

pub returns-in-Ok-clause-replies_unfailed : goal.returns-in-Ok-clause-replies_unfailed
returns-in-Ok-clause-replies_unfailed g c = c.render.ensures.replies_unfailed

pub returns-in-Err-clause-source_unfailed : goal.returns-in-Err-clause-source_unfailed
returns-in-Err-clause-source_unfailed g c = inr refl

pub returns-in-Err-clause-sound_unfailed : goal.returns-in-Err-clause-sound_unfailed
returns-in-Err-clause-sound_unfailed g c = inr refl

pub returns-in-Err-clause-replies_unfailed : goal.returns-in-Err-clause-replies_unfailed
returns-in-Err-clause-replies_unfailed g c = inr refl

pub returns-in-Ok-clause-written : goal.returns-in-Ok-clause-written
returns-in-Ok-clause-written g c = by_words c.args.words.now c.in-Ok.chosen _ c.in-Ok.ensures.ok c.render.ensures.written

pub returns-in-Ok-clause-untouched : goal.returns-in-Ok-clause-untouched
returns-in-Ok-clause-untouched g c = λ i bad.
    subst (λ o. Writes c.in-Ok.chosen (g.S.Source.left c.args.source.now) o (g.O.Sink.taken c.args.sound.now) (g.O.Sink.taken c.render.new.sound) (g.R.Sink.taken c.args.replies.now) (g.R.Sink.taken c.render.new.replies)) bad c.render.ensures.written
