use Rattle.std.proofs.Common.{map, inl, inr, refl}
use Rattle.std.proofs.KnownBytes.{Keeps-refl}
use Rattle.sn_osc.specs.Shape.{shape}
use Rattle.sn_render.specs.declared.outcome.Outcome.TheVariants.{Done, BadWords, ReadFault, SoundFault, ReplyFault}
use Rattle.sn_render.proofs.OutcomeLemmas.{few_told}
use Rattle.sn_top.proofs.ShelfLemmas.{packets_within, expanded_playable, unplayed_run, unplayed_never, unplayed_shelf, end_run, end_played, end_writes, never_end, ran_is, all_taken}
use Rattle.sn_top.proofs.shelving.run_stream.Goals as goal

pub expand_all-requires : goal.expand_all-requires
expand_all-requires g c = packets_within (g.S.Source.left c.args.source.now) (map shape c.in-Ok.packets.items) c.in-Ok.ensures.packets

pub play-requires-clause-playable : goal.play-requires-clause-playable
play-requires-clause-playable g c = λ κs lives.
    expanded_playable (g.S.Source.left c.args.source.now) c.in-Ok.packets.items c.in-Ok-expand_all.expanded.items c.in-Ok.ensures.packets c.in-Ok-expand_all.ensures.count c.in-Ok-expand_all.ensures.spelled

pub returns-in-Err-clause-done : goal.returns-in-Err-clause-done
returns-in-Err-clause-done g c = λ n e. unplayed_never c.in-Err.outcome (Done n) _ (λ x. x) c.in-Err.ensures.unplayed e

pub returns-in-Err-clause-words : goal.returns-in-Err-clause-words
returns-in-Err-clause-words g c = λ i e. unplayed_never c.in-Err.outcome (BadWords i) _ (λ x. x) c.in-Err.ensures.unplayed e

pub returns-in-Err-clause-sound : goal.returns-in-Err-clause-sound
returns-in-Err-clause-sound g c = λ e. unplayed_never c.in-Err.outcome SoundFault _ (λ x. x) c.in-Err.ensures.unplayed e

pub returns-in-Err-clause-reply : goal.returns-in-Err-clause-reply
returns-in-Err-clause-reply g c = λ e. unplayed_never c.in-Err.outcome ReplyFault _ (λ x. x) c.in-Err.ensures.unplayed e

pub returns-in-Err-clause-answer : goal.returns-in-Err-clause-answer
returns-in-Err-clause-answer g c =
    unplayed_run c.args.settings.now (g.S.Source.left c.args.source.now) (g.L.Shelf.files c.args.shelf.now) c.in-Err.outcome c.in-Err.ensures.unplayed (c.in-Err.ensures.answer c.args.settings.now)

pub returns-in-Err-clause-written : goal.returns-in-Err-clause-written
returns-in-Err-clause-written g c =
    unplayed_shelf c.args.settings.now (g.S.Source.left c.args.source.now) (g.L.Shelf.files c.args.shelf.now) c.in-Err.outcome (g.O.Sink.taken c.args.sound.now) (g.R.Sink.taken c.args.replies.now) c.in-Err.ensures.unplayed

pub returns-in-Err-NoMemory-clause-taken : goal.returns-in-Err-NoMemory-clause-taken
returns-in-Err-NoMemory-clause-taken g c =
    let p = c.in-Ok.ensures.packets in
    inr (c.in-Ok.ensures.end, few_told (g.S.Source.left c.args.source.now) p.bytes p.told p.size)

pub returns-in-Err-NoMemory-clause-written : goal.returns-in-Err-NoMemory-clause-written
returns-in-Err-NoMemory-clause-written g c = inl (Keeps-refl _, Keeps-refl _)

pub returns-in-Err-Failed-clause-written : goal.returns-in-Err-Failed-clause-written
returns-in-Err-Failed-clause-written g c = (Keeps-refl _, Keeps-refl _)

pub returns-clause-done : goal.returns-clause-done
returns-clause-done g c = λ n same.
    end_played c.args.settings.now (g.S.Source.left c.args.source.now) (g.L.Shelf.files c.args.shelf.now) (map shape c.in-Ok.packets.items) (map shape c.in-Ok-expand_all.expanded.items)
    c.in-Ok.ensures.packets c.in-Ok-expand_all.ensures.told c.in-Ok-expand_all.ensures.unasked n (g.O.Sink.taken c.args.sound.now) (g.O.Sink.taken c.play.new.sound) (g.R.Sink.taken c.args.replies.now) (g.R.Sink.taken c.play.new.replies)
    (c.play.ensures.done n (ran_is c.play.result (Done n) same))

pub returns-clause-taken : goal.returns-clause-taken
returns-clause-taken g c =
    all_taken c.args.settings.now (g.S.Source.left c.args.source.now) (g.S.Source.left c.read_packets.new.source) (map shape c.in-Ok.packets.items) (map shape c.in-Ok-expand_all.expanded.items) c.play.result
    c.in-Ok.ensures.packets c.in-Ok.ensures.end c.play.ensures.end

pub returns-clause-answer : goal.returns-clause-answer
returns-clause-answer g c =
    end_run c.args.settings.now (g.S.Source.left c.args.source.now) (g.L.Shelf.files c.args.shelf.now) (map shape c.in-Ok.packets.items) (map shape c.in-Ok-expand_all.expanded.items)
    c.in-Ok.ensures.packets c.in-Ok-expand_all.ensures.told c.in-Ok-expand_all.ensures.unasked c.play.result c.play.ensures.end

pub returns-clause-words : goal.returns-clause-words
returns-clause-words g c = λ i e. never_end c.args.settings.now (map shape c.in-Ok-expand_all.expanded.items) c.play.result (BadWords i) _ (λ x. x) c.play.ensures.end e

pub returns-clause-read : goal.returns-clause-read
returns-clause-read g c = λ e. never_end c.args.settings.now (map shape c.in-Ok-expand_all.expanded.items) c.play.result ReadFault _ (λ x. x) c.play.ensures.end e

pub returns-clause-source_unfailed : goal.returns-clause-source_unfailed
returns-clause-source_unfailed g c = inr c.in-Ok.ensures.unfailed

pub returns-clause-written : goal.returns-clause-written
returns-clause-written g c =
    end_writes c.args.settings.now (g.S.Source.left c.args.source.now) (g.L.Shelf.files c.args.shelf.now) (map shape c.in-Ok.packets.items) (map shape c.in-Ok-expand_all.expanded.items)
    c.in-Ok.ensures.packets c.in-Ok-expand_all.ensures.told c.in-Ok-expand_all.ensures.unasked c.play.result (g.O.Sink.taken c.args.sound.now) (g.O.Sink.taken c.play.new.sound) (g.R.Sink.taken c.args.replies.now) (g.R.Sink.taken c.play.new.replies)
    c.play.ensures.written
