use Rattle.std.proofs.Common.{◌≡◌, ap, subst, inl, inr, refl}
use Rattle.sn_osc.specs.Frames.{first_frame}
use Rattle.sn_osc.specs.Unpacking.{unpacked}
use Rattle.sn_server.specs.PlayEvents.{receive}
use Rattle.sn_server.specs.Serving.{Stops}
use Rattle.sn_server.specs.declared.ended.Ended.TheVariants as ends
use Rattle.sn_server.proofs.PacketLemmas.{received_ready, received_block, received_alone}
use Rattle.sn_server.proofs.ServingLemmas.{received, received_cut, received_whole, received_bad, cut_here, follows_cut, failed}
use Rattle.sn_server.proofs.FaultLemmas.{either_err}
use Rattle.sn_server.proofs.GrowingLemmas.{receive_grows}
use Rattle.sn_server.proofs.receiving.receive.Goals as goal

pub send_replies-requires : goal.send_replies-requires
send_replies-requires g c = record { alone = received_alone c.args.engine.now.running c.take_packets.new.engine.running (unpacked c.feed.new.self.kept).packets c.in_ok-bad.ensures.engine c.requires.ready.said }

pub returns-in_err-feed-clause-follows : goal.returns-in_err-feed-clause-follows
returns-in_err-feed-clause-follows g c = λ v sound_old sound_new sent_old live.
    let sent = g.L.Link.sent c.args.link.now in
    let course = receive c.args.piece.now v in
    follows_cut sound_old sound_new sent_old sent v course c.args.engine.now.running c.feed.new.self c.from_residual.result ends.NoMemory c.from_residual.ensures.1 (inl refl)
    (cut_here sound_old sound_new sent_old sent v c.args.engine.now.running c.args.framer.now course live (receive_grows c.args.piece.now v live.alone))

pub returns-in_err-bad-clause-follows : goal.returns-in_err-bad-clause-follows
returns-in_err-bad-clause-follows g c = λ v sound_old sound_new sent_old live.
    let sent = g.L.Link.sent c.args.link.now in
    let course = receive c.args.piece.now v in
    let r = c.from_residual-in_err-bad in
    follows_cut sound_old sound_new sent_old sent v course c.take_packets.new.engine.running c.take_packets.new.framer r.result ends.NoMemory r.ensures.1 (inl refl)
    (cut_here sound_old sound_new sent_old sent v c.args.engine.now.running c.args.framer.now course live (receive_grows c.args.piece.now v live.alone))

pub returns-in_err-send_replies-clause-follows : goal.returns-in_err-send_replies-clause-follows
returns-in_err-send_replies-clause-follows g c = λ v sound_old sound_new sent_old live.
    let sent_old_link = g.L.Link.sent c.args.link.now in
    let sent_new = g.L.Link.sent c.send_replies.new.link in
    let course = receive c.args.piece.now v in
    let r = c.from_residual-in_err-send_replies in
    follows_cut sound_old sound_new sent_old sent_new v course c.send_replies.new.engine.running c.take_packets.new.framer r.result c.in_err-send_replies.field-0.0 r.ensures.1 (inr c.in_err-send_replies.ensures.only)
    (received_cut v c.args.piece.now sound_old sound_new sent_old sent_old_link sent_new c.args.engine.now.running c.take_packets.new.engine.running c.args.framer.now c.feed.new.self
    live c.in_ok-feed.ensures.ok c.in_ok-bad.ensures.engine c.send_replies.ensures.front)

pub returns-in-Some-clause-follows : goal.returns-in-Some-clause-follows
returns-in-Some-clause-follows g c = λ v sound_old sound_new sent_old live.
    let e2 = c.send_replies.new.engine.running in
    let f2 = c.take_packets.new.framer in
    let stands = received v c.args.piece.now sound_old sound_new sent_old (g.L.Link.sent c.args.link.now) (g.L.Link.sent c.send_replies.new.link) c.args.engine.now.running c.take_packets.new.engine.running e2 c.args.framer.now c.feed.new.self f2
    live c.in_ok-feed.ensures.ok c.in_ok-bad.ensures.engine c.in_ok-bad.ensures.framer c.in_ok-send_replies.ensures.sent c.send_replies.ensures.kept in
    received_bad v c.args.piece.now sound_old sound_new sent_old (g.L.Link.sent c.send_replies.new.link) e2 f2 c.in-Some.how stands (subst (Stops (first_frame f2.kept)) c.in-Some.is c.in_ok-bad.ensures.stops)

pub returns-in-None-clause-follows : goal.returns-in-None-clause-follows
returns-in-None-clause-follows g c = λ v sound_old sound_new sent_old live.
    let e2 = c.send_replies.new.engine.running in
    let f2 = c.take_packets.new.framer in
    let stands = received v c.args.piece.now sound_old sound_new sent_old (g.L.Link.sent c.args.link.now) (g.L.Link.sent c.send_replies.new.link) c.args.engine.now.running c.take_packets.new.engine.running e2 c.args.framer.now c.feed.new.self f2
    live c.in_ok-feed.ensures.ok c.in_ok-bad.ensures.engine c.in_ok-bad.ensures.framer c.in_ok-send_replies.ensures.sent c.send_replies.ensures.kept in
    received_whole v c.args.piece.now sound_old sound_new sent_old (g.L.Link.sent c.send_replies.new.link) e2 f2 stands (subst (Stops (first_frame f2.kept)) c.in-None.is c.in_ok-bad.ensures.stops)

pub returns-in-None-clause-ready : goal.returns-in-None-clause-ready
returns-in-None-clause-ready g c =
    let f2 = c.take_packets.new.framer in
    received_ready c.args.engine.now.running c.take_packets.new.engine.running c.send_replies.new.engine.running c.args.framer.now c.feed.new.self f2 c.args.piece.now c.requires.ready c.in_ok-feed.ensures.ok
    c.in_ok-bad.ensures.engine c.in_ok-bad.ensures.framer c.send_replies.ensures.kept c.in_ok-bad.ensures.puts c.requires.fed (subst (Stops (first_frame f2.kept)) c.in-None.is c.in_ok-bad.ensures.stops)

pub returns-in-None-clause-block : goal.returns-in-None-clause-block
returns-in-None-clause-block g c = received_block c.args.engine.now.running c.take_packets.new.engine.running c.send_replies.new.engine.running (unpacked c.feed.new.self.kept).packets c.in_ok-bad.ensures.engine c.send_replies.ensures.kept

pub returns-in_err-send_replies-clause-unfailed : goal.returns-in_err-send_replies-clause-unfailed
returns-in_err-send_replies-clause-unfailed g c =
    let r = c.from_residual-in_err-send_replies in
    either_err r.result c.in_err-send_replies.field-0.0 ends.LinkFault (g.L.Link.faults c.send_replies.new.link ≡ g.L.Link.faults c.args.link.now) r.ensures.1 (inl (ap failed c.in_err-send_replies.ensures.only))

pub returns-in-Some-clause-unfailed : goal.returns-in-Some-clause-unfailed
returns-in-Some-clause-unfailed g c = inr c.in_ok-send_replies.ensures.unfailed

pub returns-in-None-clause-unfailed : goal.returns-in-None-clause-unfailed
returns-in-None-clause-unfailed g c = inr c.in_ok-send_replies.ensures.unfailed
