use Rattle.std.proofs.Common.{◌≡◌, ℕ, List, length, ap, inl, inr, sym, subst, ◌∙◌, refl}
use Rattle.std.specs.Io.KnownBytes.{Appends}
use Rattle.std.proofs.KnownBytes.{Keeps-refl}
use Rattle.sn_engine.specs.Running.{Running, at_boundary, flow_at}
use Rattle.sn_engine.proofs.Pasts.{running_is}
use Rattle.sn_render.proofs.WritingLemmas.{on_ok, takes_none}
use Rattle.sn_server.specs.declared.ended.Ended.TheVariants.{LinkFault, SoundFault}
use Rattle.sn_render.specs.Play.{to_first}
use Rattle.sn_server.specs.Serving.{IsRowOn}
use Rattle.sn_server.proofs.FaultLemmas.{either_err, either_of}
use Rattle.sn_server.proofs.ServingLemmas.{failed, none_part, quit_part, row_alone, row_part, row_ticked}
use Rattle.sn_server.proofs.ticking.tick.Goals as goal

pub returns-in_err-boundary-clause-part : goal.returns-in_err-boundary-clause-part
returns-in_err-boundary-clause-part g c = none_part c.args.most (g.O.Sink.taken c.args.sound.now) (g.L.Link.sent c.args.link.now) c.args.engine.now.running

-- ---- a row

pub send_replies-requires : goal.send_replies-requires
send_replies-requires g c =
    let old : Running = c.args.engine.now.running in
    let bounded : c.boundary.new.self.running ≡ at_boundary old = c.in_ok-boundary.ensures.ok ∙ ap at_boundary (running_is c.want.ensures) in
    let on = ap (λ (r : Running). flow_at r) (sym (running_is c.want.ensures)) ∙ (sym c.in_ok-boundary.ensures.flow ∙ c.in-On.is) in
    record { alone = ap (λ (r : Running). length r.replies) c.write_sound.ensures.kept ∙ row_alone c.args.most old c.play_row.new.engine.running (c.play_row.ensures old bounded on) c.requires.alone }

pub returns-in_ok-write_sound-in-On-clause-block : goal.returns-in_ok-write_sound-in-On-clause-block
returns-in_ok-write_sound-in-On-clause-block g c =
    let old : Running = c.args.engine.now.running in
    let bounded : c.boundary.new.self.running ≡ at_boundary old = c.in_ok-boundary.ensures.ok ∙ ap at_boundary (running_is c.want.ensures) in
    let on = ap (λ (r : Running). flow_at r) (sym (running_is c.want.ensures)) ∙ (sym c.in_ok-boundary.ensures.flow ∙ c.in-On.is) in
    let row : IsRowOn c.args.most old c.play_row.new.engine.running = c.play_row.ensures old bounded on in
    on_ok c.send_replies.result
    (λ told. row_ticked c.args.most (g.O.Sink.taken c.args.sound.now) (g.O.Sink.taken c.write_sound.new.sound) (g.L.Link.sent c.args.link.now) (g.L.Link.sent c.send_replies.new.link) old c.play_row.new.engine.running c.write_sound.new.engine.running
    c.send_replies.new.engine.running row c.in_ok-write_sound-in-On.ensures.written c.write_sound.ensures.kept told c.send_replies.ensures.kept)
    c.send_replies.ensures.sent

pub returns-in_ok-write_sound-in-On-clause-part : goal.returns-in_ok-write_sound-in-On-clause-part
returns-in_ok-write_sound-in-On-clause-part g c =
    let old : Running = c.args.engine.now.running in
    let bounded : c.boundary.new.self.running ≡ at_boundary old = c.in_ok-boundary.ensures.ok ∙ ap at_boundary (running_is c.want.ensures) in
    let on = ap (λ (r : Running). flow_at r) (sym (running_is c.want.ensures)) ∙ (sym c.in_ok-boundary.ensures.flow ∙ c.in-On.is) in
    row_part c.args.most (g.O.Sink.taken c.args.sound.now) (g.O.Sink.taken c.write_sound.new.sound) (g.L.Link.sent c.args.link.now) (g.L.Link.sent c.send_replies.new.link) old c.play_row.new.engine.running c.write_sound.new.engine.running
    (c.play_row.ensures old bounded on) c.write_sound.ensures.front c.write_sound.ensures.kept c.send_replies.ensures.front

pub returns-in_err-write_sound-in-On-clause-part : goal.returns-in_err-write_sound-in-On-clause-part
returns-in_err-write_sound-in-On-clause-part g c =
    let old : Running = c.args.engine.now.running in
    let bounded : c.boundary.new.self.running ≡ at_boundary old = c.in_ok-boundary.ensures.ok ∙ ap at_boundary (running_is c.want.ensures) in
    let on = ap (λ (r : Running). flow_at r) (sym (running_is c.want.ensures)) ∙ (sym c.in_ok-boundary.ensures.flow ∙ c.in-On.is) in
    row_part c.args.most (g.O.Sink.taken c.args.sound.now) (g.O.Sink.taken c.write_sound.new.sound) (g.L.Link.sent c.args.link.now) (g.L.Link.sent c.args.link.now) old c.play_row.new.engine.running c.write_sound.new.engine.running
    (c.play_row.ensures old bounded on) c.write_sound.ensures.front c.write_sound.ensures.kept (takes_none (g.L.Link.sent c.args.link.now) (to_first c.write_sound.new.engine.running.replies))

pub returns-in_err-write_sound-in-On-clause-link_unfailed : goal.returns-in_err-write_sound-in-On-clause-link_unfailed
returns-in_err-write_sound-in-On-clause-link_unfailed g c = inr refl

pub returns-in_err-write_sound-in-On-clause-sound_unfailed : goal.returns-in_err-write_sound-in-On-clause-sound_unfailed
returns-in_err-write_sound-in-On-clause-sound_unfailed g c =
    let r = c.from_residual-in_err-write_sound-in-On in
    either_err r.result c.in_err-write_sound-in-On.field-0.0 SoundFault (g.O.Sink.faults c.write_sound.new.sound ≡ g.O.Sink.faults c.args.sound.now) r.ensures.1 (inl (ap failed c.in_err-write_sound-in-On.ensures.only))

pub returns-in_ok-write_sound-in-On-clause-link_unfailed : goal.returns-in_ok-write_sound-in-On-clause-link_unfailed
returns-in_ok-write_sound-in-On-clause-link_unfailed g c =
    either_of c.send_replies.result LinkFault (g.L.Link.faults c.send_replies.new.link ≡ g.L.Link.faults c.args.link.now) c.send_replies.ensures.only c.send_replies.ensures.unfailed

pub returns-in_ok-write_sound-in-On-clause-sound_unfailed : goal.returns-in_ok-write_sound-in-On-clause-sound_unfailed
returns-in_ok-write_sound-in-On-clause-sound_unfailed g c = inr c.in_ok-write_sound-in-On.ensures.unfailed

-- ---- an end

pub returns-in_err-send_replies-in-Quit-clause-link_unfailed : goal.returns-in_err-send_replies-in-Quit-clause-link_unfailed
returns-in_err-send_replies-in-Quit-clause-link_unfailed g c =
    let r = c.from_residual-in_err-send_replies-in-Quit in
    either_err r.result c.in_err-send_replies-in-Quit.field-0.0 LinkFault (g.L.Link.faults c.send_replies-in-Quit.new.link ≡ g.L.Link.faults c.args.link.now) r.ensures.1 (inl (ap failed c.in_err-send_replies-in-Quit.ensures.only))

pub returns-in_err-send_replies-in-Quit-clause-sound_unfailed : goal.returns-in_err-send_replies-in-Quit-clause-sound_unfailed
returns-in_err-send_replies-in-Quit-clause-sound_unfailed g c = inr refl

pub returns-in_ok-send_replies-in-Quit-clause-link_unfailed : goal.returns-in_ok-send_replies-in-Quit-clause-link_unfailed
returns-in_ok-send_replies-in-Quit-clause-link_unfailed g c = inr c.in_ok-send_replies-in-Quit.ensures.unfailed

pub returns-in_ok-send_replies-in-Quit-clause-sound_unfailed : goal.returns-in_ok-send_replies-in-Quit-clause-sound_unfailed
returns-in_ok-send_replies-in-Quit-clause-sound_unfailed g c = inr refl

pub returns-in_err-send_replies-in-Quit-clause-part : goal.returns-in_err-send_replies-in-Quit-clause-part
returns-in_err-send_replies-in-Quit-clause-part g c =
    quit_part c.args.most (g.O.Sink.taken c.args.sound.now) (g.L.Link.sent c.args.link.now) (g.L.Link.sent c.send_replies-in-Quit.new.link) c.args.engine.now.running c.boundary.new.self.running
    (ap (λ (r : Running). flow_at r) (sym (running_is c.want.ensures)) ∙ (sym c.in_ok-boundary.ensures.flow ∙ c.in-Quit.is)) (c.in_ok-boundary.ensures.ok ∙ ap at_boundary (running_is c.want.ensures)) c.send_replies-in-Quit.ensures.front

pub returns-in_ok-send_replies-in-Quit-clause-part : goal.returns-in_ok-send_replies-in-Quit-clause-part
returns-in_ok-send_replies-in-Quit-clause-part g c =
    quit_part c.args.most (g.O.Sink.taken c.args.sound.now) (g.L.Link.sent c.args.link.now) (g.L.Link.sent c.send_replies-in-Quit.new.link) c.args.engine.now.running c.boundary.new.self.running
    (ap (λ (r : Running). flow_at r) (sym (running_is c.want.ensures)) ∙ (sym c.in_ok-boundary.ensures.flow ∙ c.in-Quit.is)) (c.in_ok-boundary.ensures.ok ∙ ap at_boundary (running_is c.want.ensures)) c.send_replies-in-Quit.ensures.front

pub returns-in_ok-send_replies-in-Quit-clause-quit : goal.returns-in_ok-send_replies-in-Quit-clause-quit
returns-in_ok-send_replies-in-Quit-clause-quit g c = λ ends. record {
  flow = ap (λ (r : Running). flow_at r) (sym (running_is c.want.ensures)) ∙ (sym c.in_ok-boundary.ensures.flow ∙ c.in-Quit.is);
  sound = Keeps-refl (g.O.Sink.taken c.args.sound.now);
  replies = subst (λ (bytes : List ℕ). Appends (g.L.Link.sent c.args.link.now) (g.L.Link.sent c.send_replies-in-Quit.new.link) bytes)
      (ap (λ (r : Running). to_first r.replies) (c.in_ok-boundary.ensures.ok ∙ ap at_boundary (running_is c.want.ensures))) c.in_ok-send_replies-in-Quit.ensures.sent;
}
