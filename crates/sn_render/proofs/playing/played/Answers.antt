use Rattle.std.proofs.Common.{◌≡◌, map, ap, ◌∙◌, inr, subst, sym}
use Rattle.std.specs.Prelude.{unwrap_or}
use Rattle.std.proofs.KnownBytes.{Keeps-refl}
use Rattle.sn_osc.specs.Shape.{shape}
use Rattle.sn_queue.specs.Steps.{last_due}
use Rattle.sn_render.specs.Outcomes.{IsTooLong}
use Rattle.sn_render.specs.Play.{arrive, last_of}
use Rattle.sn_render.proofs.ArrivingLemmas.{opened_begun, opened_put}
use Rattle.sn_render.proofs.GoingLemmas.{begun_first, begun_stands}
use Rattle.sn_render.proofs.OutcomeLemmas.{done_packets, front_packets, not_long}
use Rattle.sn_render.proofs.playing.played.Goals as goal

pub offer_all-requires-clause-begun : goal.offer_all-requires-clause-begun
offer_all-requires-clause-begun g c = opened_begun c.args.settings.now c.args.engine.now.running c.requires.opened

pub offer_all-requires-clause-put : goal.offer_all-requires-clause-put
offer_all-requires-clause-put g c = opened_put c.args.settings.now (map shape c.args.packets.items) c.args.engine.now.running c.requires.playable c.requires.opened

pub write_run-requires-clause-begun : goal.write_run-requires-clause-begun
write_run-requires-clause-begun g c = λ κs lives. begun_first c.args.settings.now (map shape c.args.packets.items) c.offer_all.new.engine.running (c.in-Ok.ensures ∙ ap (arrive (map shape c.args.packets.items)) c.requires.opened)

pub write_run-requires-clause-stands : goal.write_run-requires-clause-stands
write_run-requires-clause-stands g c = λ κs lives. begun_stands c.args.settings.now (map shape c.args.packets.items) c.offer_all.new.engine.running (c.in-Ok.ensures ∙ ap (arrive (map shape c.args.packets.items)) c.requires.opened)

pub returns-in-Ok-write_run-clause-done : goal.returns-in-Ok-write_run-clause-done
returns-in-Ok-write_run-clause-done g c = λ n same.
    let s = c.args.settings.now in
    let packets = map shape c.args.packets.items in
    let last : c.unwrap_or-blocks.result ≡ last_of s packets = c.unwrap_or-blocks.ensures ∙ ap (λ o. unwrap_or o 0) (c.last.ensures ∙ ap (λ e. last_due e.waiting) (c.in-Ok.ensures ∙ ap (arrive packets) c.requires.opened)) in
    done_packets s (g.O.Sink.taken c.args.sound.now) (g.O.Sink.taken c.write_run.new.sound) (g.R.Sink.taken c.args.replies.now) (g.R.Sink.taken c.write_run.new.replies)
    packets c.unwrap_or-blocks.result n c.offer_all.new.engine.running last (c.in-Ok.ensures ∙ ap (arrive packets) c.requires.opened) c.in-Ok-write_run.ensures.ended same

pub returns-in-Ok-write_run-clause-end : goal.returns-in-Ok-write_run-clause-end
returns-in-Ok-write_run-clause-end g c =
    let s = c.args.settings.now in
    let packets = map shape c.args.packets.items in
    let last : c.unwrap_or-blocks.result ≡ last_of s packets = c.unwrap_or-blocks.ensures ∙ ap (λ o. unwrap_or o 0) (c.last.ensures ∙ ap (λ e. last_due e.waiting) (c.in-Ok.ensures ∙ ap (arrive packets) c.requires.opened)) in
    (last, not_long _ _ c.too_long.ensures.1 c.if-too_long.false)

pub returns-then-too_long-clause-end : goal.returns-then-too_long-clause-end
returns-then-too_long-clause-end g c =
    let s = c.args.settings.now in
    let packets = map shape c.args.packets.items in
    let last : c.unwrap_or-blocks.result ≡ last_of s packets = c.unwrap_or-blocks.ensures ∙ ap (λ o. unwrap_or o 0) (c.last.ensures ∙ ap (λ e. last_due e.waiting) (c.in-Ok.ensures ∙ ap (arrive packets) c.requires.opened)) in
    (last, c.too_long.ensures.0 c.if-too_long.true)

pub returns-then-too_long-clause-written : goal.returns-then-too_long-clause-written
returns-then-too_long-clause-written g c = (Keeps-refl _, Keeps-refl _)

pub returns-in-Err-SoundFault-clause-end : goal.returns-in-Err-SoundFault-clause-end
returns-in-Err-SoundFault-clause-end g c =
    let s = c.args.settings.now in
    let packets = map shape c.args.packets.items in
    let last : c.unwrap_or-blocks.result ≡ last_of s packets = c.unwrap_or-blocks.ensures ∙ ap (λ o. unwrap_or o 0) (c.last.ensures ∙ ap (λ e. last_due e.waiting) (c.in-Ok.ensures ∙ ap (arrive packets) c.requires.opened)) in
    λ long. not_long _ _ c.too_long.ensures.1 c.if-too_long.false (subst (IsTooLong s) (sym last) long)

pub returns-in-Err-ReplyFault-clause-end : goal.returns-in-Err-ReplyFault-clause-end
returns-in-Err-ReplyFault-clause-end g c =
    let s = c.args.settings.now in
    let packets = map shape c.args.packets.items in
    let last : c.unwrap_or-blocks.result ≡ last_of s packets = c.unwrap_or-blocks.ensures ∙ ap (λ o. unwrap_or o 0) (c.last.ensures ∙ ap (λ e. last_due e.waiting) (c.in-Ok.ensures ∙ ap (arrive packets) c.requires.opened)) in
    λ long. not_long _ _ c.too_long.ensures.1 c.if-too_long.false (subst (IsTooLong s) (sym last) long)

pub returns-in-Err-NoMemory-clause-written : goal.returns-in-Err-NoMemory-clause-written
returns-in-Err-NoMemory-clause-written g c =
    let s = c.args.settings.now in
    let packets = map shape c.args.packets.items in
    let last : c.unwrap_or-blocks.result ≡ last_of s packets = c.unwrap_or-blocks.ensures ∙ ap (λ o. unwrap_or o 0) (c.last.ensures ∙ ap (λ e. last_due e.waiting) (c.in-Ok.ensures ∙ ap (arrive packets) c.requires.opened)) in
    inr (front_packets s (g.O.Sink.taken c.args.sound.now) (g.O.Sink.taken c.write_run.new.sound) (g.R.Sink.taken c.args.replies.now) (g.R.Sink.taken c.write_run.new.replies)
    packets c.unwrap_or-blocks.result c.offer_all.new.engine.running last (not_long _ _ c.too_long.ensures.1 c.if-too_long.false) (c.in-Ok.ensures ∙ ap (arrive packets) c.requires.opened) c.in-Err-NoMemory.ensures.fronts)

pub returns-in-Err-SoundFault-clause-written : goal.returns-in-Err-SoundFault-clause-written
returns-in-Err-SoundFault-clause-written g c =
    let s = c.args.settings.now in
    let packets = map shape c.args.packets.items in
    let last : c.unwrap_or-blocks.result ≡ last_of s packets = c.unwrap_or-blocks.ensures ∙ ap (λ o. unwrap_or o 0) (c.last.ensures ∙ ap (λ e. last_due e.waiting) (c.in-Ok.ensures ∙ ap (arrive packets) c.requires.opened)) in
    front_packets s (g.O.Sink.taken c.args.sound.now) (g.O.Sink.taken c.write_run.new.sound) (g.R.Sink.taken c.args.replies.now) (g.R.Sink.taken c.write_run.new.replies)
    packets c.unwrap_or-blocks.result c.offer_all.new.engine.running last (not_long _ _ c.too_long.ensures.1 c.if-too_long.false) (c.in-Ok.ensures ∙ ap (arrive packets) c.requires.opened) c.in-Err-SoundFault.ensures.fronts

pub returns-in-Err-ReplyFault-clause-written : goal.returns-in-Err-ReplyFault-clause-written
returns-in-Err-ReplyFault-clause-written g c =
    let s = c.args.settings.now in
    let packets = map shape c.args.packets.items in
    let last : c.unwrap_or-blocks.result ≡ last_of s packets = c.unwrap_or-blocks.ensures ∙ ap (λ o. unwrap_or o 0) (c.last.ensures ∙ ap (λ e. last_due e.waiting) (c.in-Ok.ensures ∙ ap (arrive packets) c.requires.opened)) in
    front_packets s (g.O.Sink.taken c.args.sound.now) (g.O.Sink.taken c.write_run.new.sound) (g.R.Sink.taken c.args.replies.now) (g.R.Sink.taken c.write_run.new.replies)
    packets c.unwrap_or-blocks.result c.offer_all.new.engine.running last (not_long _ _ c.too_long.ensures.1 c.if-too_long.false) (c.in-Ok.ensures ∙ ap (arrive packets) c.requires.opened) c.in-Err-ReplyFault.ensures.fronts
