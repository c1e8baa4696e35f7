use Rattle.std.proofs.Common.{inr, refl}
use Rattle.sn_top.proofs.ByWordsLemmas.{by_words}
use Rattle.sn_top.proofs.ShelfLemmas.{complete}
use Rattle.sn_top.proofs.shelving.run_shelf.Goals as goal

pub returns-in-Ok-clause-done : goal.returns-in-Ok-clause-done
returns-in-Ok-clause-done g c = λ n done. (c.in-Ok.chosen, c.in-Ok.ensures.ok, c.run_stream.ensures.done n done)

pub returns-in-Ok-clause-answer : goal.returns-in-Ok-clause-answer
returns-in-Ok-clause-answer g c = by_words c.args.words.now c.in-Ok.chosen _ c.in-Ok.ensures.ok c.run_stream.ensures.answer

pub returns-in-Ok-clause-complete : goal.returns-in-Ok-clause-complete
returns-in-Ok-clause-complete g c = by_words c.args.words.now c.in-Ok.chosen _ c.in-Ok.ensures.ok (λ bytes files answer one other has read failed sound reply.
    complete c.in-Ok.chosen (g.S.Source.left c.args.source.now) (g.L.Shelf.files c.args.shelf.now) c.run_stream.result answer bytes files c.run_stream.ensures.answer one other has
    (λ e. read (c.run_stream.ensures.read e)) (λ e. failed (c.run_stream.ensures.shelf e)) (λ e. sound (c.run_stream.ensures.sound e)) (λ e. reply (c.run_stream.ensures.reply e)))

pub returns-in-Ok-clause-written : goal.returns-in-Ok-clause-written
returns-in-Ok-clause-written g c = by_words c.args.words.now c.in-Ok.chosen _ c.in-Ok.ensures.ok c.run_stream.ensures.written

pub returns-in-Ok-clause-untouched : goal.returns-in-Ok-clause-untouched
returns-in-Ok-clause-untouched g c = λ i bad. absurd (c.run_stream.ensures.words i bad)

pub returns-in-Ok-clause-source_unfailed : goal.returns-in-Ok-clause-source_unfailed
returns-in-Ok-clause-source_unfailed g c = c.run_stream.ensures.source_unfailed

pub returns-in-Ok-clause-shelf_unfailed : goal.returns-in-Ok-clause-shelf_unfailed
returns-in-Ok-clause-shelf_unfailed g c = c.run_stream.ensures.shelf_unfailed

pub returns-in-Ok-clause-sound_unfailed : goal.returns-in-Ok-clause-sound_unfailed
returns-in-Ok-clause-sound_unfailed g c = c.run_stream.ensures.sound_unfailed

pub returns-in-Ok-clause-replies_unfailed : goal.returns-in-Ok-clause-replies_unfailed
returns-in-Ok-clause-replies_unfailed g c = c.run_stream.ensures.replies_unfailed

pub returns-in-Err-clause-source_unfailed : goal.returns-in-Err-clause-source_unfailed
returns-in-Err-clause-source_unfailed g c = inr refl

pub returns-in-Err-clause-shelf_unfailed : goal.returns-in-Err-clause-shelf_unfailed
returns-in-Err-clause-shelf_unfailed g c = inr refl

pub returns-in-Err-clause-sound_unfailed : goal.returns-in-Err-clause-sound_unfailed
returns-in-Err-clause-sound_unfailed g c = inr refl

pub returns-in-Err-clause-replies_unfailed : goal.returns-in-Err-clause-replies_unfailed
returns-in-Err-clause-replies_unfailed g c = inr refl
