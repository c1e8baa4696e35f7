use Rattle.sn_pcm.specs.Sound.{data_len, header_bytes}
use Rattle.std.proofs.Common.{refl}
use Rattle.sn_render.specs.Play.{to_end, to_first}
use Rattle.sn_render.proofs.GoingLemmas.{few_blocks, headed, head_cut, headed_cut}
use Rattle.sn_render.proofs.FaultLemmas.{none_else_after, none_else_err, sound_alone}
use Rattle.sn_render.proofs.WritingLemmas.{on_ok, on_err, on_any_err}
use Rattle.sn_render.proofs.playing.write_run.Goals as goal

pub render_blocks-requires-clause-blocks : goal.render_blocks-requires-clause-blocks
render_blocks-requires-clause-blocks g c = λ κs lives. few_blocks c.args.settings.now c.args.blocks c.requires.short

pub returns-clause-ended : goal.returns-clause-ended
returns-clause-ended g c =
    let whole = to_end c.args.blocks c.args.engine.now.running in
    let s = c.args.settings.now in
    on_ok c.render_blocks.result (headed (header_bytes s (data_len s c.args.blocks)) whole.sound (to_first whole.replies) _ _ _ _ _ c.in_ok-write_header.ensures.written) c.render_blocks.ensures.ended

pub returns-clause-unfailed : goal.returns-clause-unfailed
returns-clause-unfailed g c =
    let replies_old = g.R.Sink.faults c.args.replies.now in
    none_else_after c.render_blocks.result _ _ _ replies_old replies_old _ (c.in_ok-write_header.ensures.unfailed, refl) c.render_blocks.ensures.unfailed

pub returns-in_err-write_header-clause-unfailed : goal.returns-in_err-write_header-clause-unfailed
returns-in_err-write_header-clause-unfailed g c =
    let e = c.in_err-write_header.field-0.0 in
    let sound_old = g.O.Sink.faults c.args.sound.now in
    let sound_new = g.O.Sink.faults c.write_header.new.sound in
    let replies = g.R.Sink.faults c.args.replies.now in
    none_else_err c.from_residual.result e sound_old sound_new replies replies c.from_residual.ensures.1
    (sound_alone e sound_old sound_new replies replies c.in_err-write_header.ensures.memory c.in_err-write_header.ensures.reply refl)

pub returns-in_err-write_header-clause-fronts : goal.returns-in_err-write_header-clause-fronts
returns-in_err-write_header-clause-fronts g c =
    let whole = to_end c.args.blocks c.args.engine.now.running in
    let s = c.args.settings.now in
    on_any_err c.from_residual.result (head_cut (header_bytes s (data_len s c.args.blocks)) whole.sound (to_first whole.replies) _ _ _ c.in_err-write_header.ensures.front)

pub returns-clause-fronts : goal.returns-clause-fronts
returns-clause-fronts g c =
    let whole = to_end c.args.blocks c.args.engine.now.running in
    let s = c.args.settings.now in
    on_err c.render_blocks.result (headed_cut (header_bytes s (data_len s c.args.blocks)) whole.sound (to_first whole.replies) _ _ _ _ _ c.in_ok-write_header.ensures.written) c.render_blocks.ensures.fronts
