use Rattle.std.proofs.Common.{length, ap, ◌∙◌, refl, rules}
use Rattle.sn_engine.specs.Running.{Running}
use Rattle.sn_render.specs.Play.{after_blocks}
use Rattle.sn_render.proofs.RowLemmas.{row_alone}
use Rattle.sn_render.proofs.WritingLemmas.{on_any_err, replies_cut, sound_cut, takes_none, written_in_turn}
use Rattle.sn_render.proofs.FaultLemmas.{none_else_err, sound_alone, replies_alone}
use Rattle.sn_render.specs.declared.rendering.Stop.TheVariants.{NoMemory}
use Rattle.sn_render.proofs.rendering.render_row.Goals as goal

pub write_replies-requires : goal.write_replies-requires
write_replies-requires g c =
    record { alone = ap (λ r. length r.replies) c.in_ok-write_sound.ensures.kept ∙ row_alone c.args.most c.args.engine.now.running c.play_row.new.engine.running c.in_ok-play_row.ensures c.requires.alone }

pub returns-clause-row : goal.returns-clause-row
returns-clause-row g c =
    let row = c.in_ok-play_row.ensures in
    let all : Running = after_blocks row.blocks c.args.engine.now.running in record {
      blocks = row.blocks;
      some = row.some;
      few = row.few;
      written = written_in_turn _ _ _ _ all c.play_row.new.engine.running c.write_sound.new.engine.running c.write_replies.new.engine.running row.played c.in_ok-write_sound.ensures.kept c.in_ok-write_replies.ensures.kept
          (row_alone c.args.most c.args.engine.now.running c.play_row.new.engine.running row c.requires.alone) c.in_ok-write_replies.ensures.alone c.in_ok-write_sound.ensures.written c.in_ok-write_replies.ensures.written;
    }

pub returns-in_err-play_row-clause-fronts : goal.returns-in_err-play_row-clause-fronts
returns-in_err-play_row-clause-fronts g c = on_any_err c.from_residual.result (record { blocks = 0; few = search rules; fronts = record { sound = takes_none _ _; replies = takes_none _ _ } })

pub returns-in_err-write_sound-clause-fronts : goal.returns-in_err-write_sound-clause-fronts
returns-in_err-write_sound-clause-fronts g c =
    let row = c.in_ok-play_row.ensures in
    on_any_err c.from_residual-in_err-write_sound.result
    (record { blocks = row.blocks; few = row.few; fronts = sound_cut _ _ _ (after_blocks row.blocks c.args.engine.now.running) c.play_row.new.engine.running row.played c.in_err-write_sound.ensures.front })

pub returns-in_err-write_replies-clause-fronts : goal.returns-in_err-write_replies-clause-fronts
returns-in_err-write_replies-clause-fronts g c =
    let row = c.in_ok-play_row.ensures in
    on_any_err c.from_residual-in_err-write_replies.result
    (record {
      blocks = row.blocks;
      few = row.few;
      fronts = replies_cut _ _ _ _ (after_blocks row.blocks c.args.engine.now.running) c.play_row.new.engine.running c.write_sound.new.engine.running row.played c.in_ok-write_sound.ensures.kept c.in_ok-write_sound.ensures.written c.in_err-write_replies.ensures.front;
    })

pub returns-in_err-play_row-clause-unfailed : goal.returns-in_err-play_row-clause-unfailed
returns-in_err-play_row-clause-unfailed g c =
    let sound = g.O.Sink.faults c.args.sound.now in
    let replies = g.R.Sink.faults c.args.replies.now in
    none_else_err c.from_residual.result NoMemory sound sound replies replies c.from_residual.ensures.1 (refl, refl)

pub returns-in_err-write_sound-clause-unfailed : goal.returns-in_err-write_sound-clause-unfailed
returns-in_err-write_sound-clause-unfailed g c =
    let e = c.in_err-write_sound.field-0.0 in
    let sound_old = g.O.Sink.faults c.args.sound.now in
    let sound_new = g.O.Sink.faults c.write_sound.new.sink in
    let replies = g.R.Sink.faults c.args.replies.now in
    none_else_err c.from_residual-in_err-write_sound.result e sound_old sound_new replies replies c.from_residual-in_err-write_sound.ensures.1
    (sound_alone e sound_old sound_new replies replies c.in_err-write_sound.ensures.memory c.in_err-write_sound.ensures.reply refl)

pub returns-in_err-write_replies-clause-unfailed : goal.returns-in_err-write_replies-clause-unfailed
returns-in_err-write_replies-clause-unfailed g c =
    let e = c.in_err-write_replies.field-0.0 in
    let sound_old = g.O.Sink.faults c.args.sound.now in
    let sound_new = g.O.Sink.faults c.write_sound.new.sink in
    let replies_old = g.R.Sink.faults c.args.replies.now in
    let replies_new = g.R.Sink.faults c.write_replies.new.sink in
    none_else_err c.from_residual-in_err-write_replies.result e sound_old sound_new replies_old replies_new c.from_residual-in_err-write_replies.ensures.1
    (replies_alone e sound_old sound_new replies_old replies_new c.in_err-write_replies.ensures.memory c.in_err-write_replies.ensures.sound c.in_ok-write_sound.ensures.unfailed)
