use Rattle.std.proofs.Common.{map, inr, refl}
use Rattle.sn_osc.specs.Shape.{shape}
use Rattle.sn_render.specs.declared.outcome.Outcome.TheVariants.{Done, SoundFault, ReplyFault}
use Rattle.sn_render.proofs.ArrivingLemmas.{frames_playable}
use Rattle.sn_render.proofs.OutcomeLemmas.{end_answer, end_taken, end_writes, never_read, played_told, unplayed, unplayed_writes}
use Rattle.sn_render.proofs.streaming.run_stream.Goals as goal

pub play-requires-clause-playable : goal.play-requires-clause-playable
play-requires-clause-playable g c = λ κs lives.
    let p = c.in-Ok.ensures.packets in
    frames_playable (map shape c.in-Ok.packets.items) p.bytes p.frames p.size

pub returns-clause-answer : goal.returns-clause-answer
returns-clause-answer g c = end_answer c.args.settings.now (g.S.Source.left c.args.source.now) (map shape c.in-Ok.packets.items) c.play.result c.in-Ok.ensures.packets c.play.ensures.end

pub returns-clause-done : goal.returns-clause-done
returns-clause-done g c = λ n same.
    played_told c.args.settings.now (g.S.Source.left c.args.source.now) (g.O.Sink.taken c.args.sound.now) (g.O.Sink.taken c.play.new.sound) (g.R.Sink.taken c.args.replies.now) (g.R.Sink.taken c.play.new.replies)
    (map shape c.in-Ok.packets.items) n c.in-Ok.ensures.packets (c.play.ensures.done n same)

pub returns-clause-taken : goal.returns-clause-taken
returns-clause-taken g c = end_taken c.args.settings.now (g.S.Source.left c.args.source.now) (g.S.Source.left c.read_packets.new.source) (map shape c.in-Ok.packets.items) c.play.result c.in-Ok.ensures.packets c.in-Ok.ensures.end c.play.ensures.end

pub returns-clause-read : goal.returns-clause-read
returns-clause-read g c = λ e. never_read c.args.settings.now (map shape c.in-Ok.packets.items) c.play.result _ c.play.ensures.end e

pub returns-clause-source_unfailed : goal.returns-clause-source_unfailed
returns-clause-source_unfailed g c = inr c.in-Ok.ensures.unfailed

pub returns-clause-written : goal.returns-clause-written
returns-clause-written g c =
    end_writes c.args.settings.now (g.S.Source.left c.args.source.now) (g.O.Sink.taken c.args.sound.now) (g.O.Sink.taken c.play.new.sound) (g.R.Sink.taken c.args.replies.now) (g.R.Sink.taken c.play.new.replies)
    (map shape c.in-Ok.packets.items) c.play.result c.in-Ok.ensures.packets c.play.ensures.written

pub returns-in-Err-clause-answer : goal.returns-in-Err-clause-answer
returns-in-Err-clause-answer g c = c.in-Err.ensures.answer c.args.settings.now

pub returns-in-Err-clause-done : goal.returns-in-Err-clause-done
returns-in-Err-clause-done g c = λ n e. unplayed c.in-Err.outcome (Done n) _ (λ x. x) c.in-Err.ensures.unplayed e

pub returns-in-Err-clause-sound : goal.returns-in-Err-clause-sound
returns-in-Err-clause-sound g c = λ e. unplayed c.in-Err.outcome SoundFault _ (λ x. x) c.in-Err.ensures.unplayed e

pub returns-in-Err-clause-reply : goal.returns-in-Err-clause-reply
returns-in-Err-clause-reply g c = λ e. unplayed c.in-Err.outcome ReplyFault _ (λ x. x) c.in-Err.ensures.unplayed e

pub returns-in-Err-clause-written : goal.returns-in-Err-clause-written
returns-in-Err-clause-written g c = unplayed_writes c.args.settings.now (g.S.Source.left c.args.source.now) c.in-Err.outcome (g.O.Sink.taken c.args.sound.now) (g.R.Sink.taken c.args.replies.now) c.in-Err.ensures.unplayed

pub returns-in-Err-clause-source_unfailed : goal.returns-in-Err-clause-source_unfailed
returns-in-Err-clause-source_unfailed g c = c.in-Err.ensures.refused

pub returns-in-Err-clause-sound_unfailed : goal.returns-in-Err-clause-sound_unfailed
returns-in-Err-clause-sound_unfailed g c = inr refl

pub returns-in-Err-clause-replies_unfailed : goal.returns-in-Err-clause-replies_unfailed
returns-in-Err-clause-replies_unfailed g c = inr refl
