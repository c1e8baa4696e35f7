use Rattle.std.proofs.Common.{take, ◌≡◌, ◌∙◌, inr, refl}
use Rattle.sn_ports.specs.Links.{bytes, ticks, Takes}
use Rattle.sn_server.proofs.EventLemmas.{known_kept, live_kept, took_event, took_none, none_taken, none_at_close, fed_bytes, fed_ticks, fed_end}
use Rattle.sn_server.specs.declared.ended.Ended.TheVariants.{LinkFault}
use Rattle.sn_server.proofs.FaultLemmas.{either_so}
use Rattle.sn_server.proofs.ServingLemmas.{failed}
use Rattle.sn_server.proofs.serving.take_event.Goals as goal

pub returns-in-Ok-Bytes-clause-took : goal.returns-in-Ok-Bytes-clause-took
returns-in-Ok-Bytes-clause-took g c = λ v sound_old sent_old live.
    let left_old = g.L.Link.left c.args.link.now in
    let left_mid = g.L.Link.left c.next.new.self in
    let left_new = g.L.Link.left c.receive.new.link in
    let sound_new = g.O.Sink.taken c.args.sound.now in
    let sent_mid = g.L.Link.sent c.next.new.self in
    let sent_new = g.L.Link.sent c.receive.new.link in
    let piece = take c.in-Ok-Bytes.count c.next.new.into in
    let on = live_kept sound_old sound_new sent_old (g.L.Link.sent c.args.link.now) sent_mid v c.args.engine.now.running c.args.framer.now live c.in-Ok-Bytes.ensures.sent in
    took_event left_old left_new sound_old sound_new sound_new sent_old sent_mid sent_new v c.args.engine.now.running c.receive.new.engine.running c.args.framer.now c.receive.new.framer (bytes piece) c.receive.result on c.requires.left
    (known_kept left_old left_mid left_new (λ old new. Takes old new (bytes piece)) (fed_bytes left_old left_mid c.next.new.into c.in-Ok-Bytes.count c.in-Ok-Bytes.field-0 c.in-Ok-Bytes.field-0-is c.in-Ok-Bytes.ensures.events) c.receive.ensures.events)
    (c.receive.ensures.follows v sound_old sound_new sent_old on)

pub returns-in-Ok-Ticks-clause-took : goal.returns-in-Ok-Ticks-clause-took
returns-in-Ok-Ticks-clause-took g c = λ v sound_old sent_old live.
    let left_old = g.L.Link.left c.args.link.now in
    let left_mid = g.L.Link.left c.next.new.self in
    let left_new = g.L.Link.left c.ticks.new.link in
    let sound_mid = g.O.Sink.taken c.args.sound.now in
    let sound_new = g.O.Sink.taken c.ticks.new.sound in
    let sent_mid = g.L.Link.sent c.next.new.self in
    let sent_new = g.L.Link.sent c.ticks.new.link in
    let on = live_kept sound_old sound_mid sent_old (g.L.Link.sent c.args.link.now) sent_mid v c.args.engine.now.running c.args.framer.now live c.in-Ok-Ticks.ensures.sent in
    took_event left_old left_new sound_old sound_mid sound_new sent_old sent_mid sent_new v c.args.engine.now.running c.ticks.new.engine.running c.args.framer.now c.args.framer.now (ticks c.in-Ok-Ticks.count) c.ticks.result on c.requires.left
    (known_kept left_old left_mid left_new (λ old new. Takes old new (ticks c.in-Ok-Ticks.count)) (fed_ticks left_old left_mid c.next.new.into c.in-Ok-Ticks.count c.in-Ok-Ticks.field-0 c.in-Ok-Ticks.field-0-is c.in-Ok-Ticks.ensures.events) c.ticks.ensures.events)
    (c.ticks.ensures.follows v sound_old sent_old on)

pub returns-in-Ok-End-clause-took : goal.returns-in-Ok-End-clause-took
returns-in-Ok-End-clause-took g c = λ v sound_old sent_old live.
    let sound_new = g.O.Sink.taken c.args.sound.now in
    let sent_new = g.L.Link.sent c.next.new.self in
    let on = live_kept sound_old sound_new sent_old (g.L.Link.sent c.args.link.now) sent_new v c.args.engine.now.running c.args.framer.now live c.in-Ok-End.ensures.sent in
    took_none (g.L.Link.left c.args.link.now) (g.L.Link.left c.next.new.self) sound_old sound_new sent_old sent_new v c.args.engine.now.running c.args.framer.now c.closing.result on c.requires.left (fed_end (g.L.Link.left c.args.link.now) (g.L.Link.left c.next.new.self) c.next.new.into c.in-Ok-End.field-0 c.in-Ok-End.field-0-is c.in-Ok-End.ensures.events) c.closing.ensures

pub returns-in-Err-clause-took : goal.returns-in-Err-clause-took
returns-in-Err-clause-took g c = λ v sound_old sent_old live.
    let sound_new = g.O.Sink.taken c.args.sound.now in
    let sent_new = g.L.Link.sent c.next.new.self in
    let on = live_kept sound_old sound_new sent_old (g.L.Link.sent c.args.link.now) sent_new v c.args.engine.now.running c.args.framer.now live c.in-Err.ensures.sent in
    none_taken (g.L.Link.left c.args.link.now) (g.L.Link.left c.next.new.self) sound_old sound_new sent_old sent_new v c.args.engine.now.running c.args.framer.now on c.in-Err.ensures.events

pub returns-in-Ok-End-clause-close : goal.returns-in-Ok-End-clause-close
returns-in-Ok-End-clause-close g c = none_at_close c.closing.result (g.L.Link.left c.args.link.now) (g.L.Link.left c.next.new.self)
    (fed_end (g.L.Link.left c.args.link.now) (g.L.Link.left c.next.new.self) c.next.new.into c.in-Ok-End.field-0 c.in-Ok-End.field-0-is c.in-Ok-End.ensures.events)

pub returns-in-Ok-Bytes-clause-link_unfailed : goal.returns-in-Ok-Bytes-clause-link_unfailed
returns-in-Ok-Bytes-clause-link_unfailed g c =
    let link_old = g.L.Link.faults c.args.link.now in
    let link_mid = g.L.Link.faults c.next.new.self in
    let link_new = g.L.Link.faults c.receive.new.link in
    either_so (c.receive.result ≡ failed LinkFault) (link_new ≡ link_mid) (link_new ≡ link_old) (λ still. still ∙ c.in-Ok-Bytes.ensures.unfailed) c.receive.ensures.unfailed

pub returns-in-Ok-Bytes-clause-sound_unfailed : goal.returns-in-Ok-Bytes-clause-sound_unfailed
returns-in-Ok-Bytes-clause-sound_unfailed g c = inr refl

pub returns-in-Ok-Ticks-clause-link_unfailed : goal.returns-in-Ok-Ticks-clause-link_unfailed
returns-in-Ok-Ticks-clause-link_unfailed g c =
    let link_old = g.L.Link.faults c.args.link.now in
    let link_mid = g.L.Link.faults c.next.new.self in
    let link_new = g.L.Link.faults c.ticks.new.link in
    either_so (c.ticks.result ≡ failed LinkFault) (link_new ≡ link_mid) (link_new ≡ link_old) (λ still. still ∙ c.in-Ok-Ticks.ensures.unfailed) c.ticks.ensures.link_unfailed

pub returns-in-Ok-Ticks-clause-sound_unfailed : goal.returns-in-Ok-Ticks-clause-sound_unfailed
returns-in-Ok-Ticks-clause-sound_unfailed g c = c.ticks.ensures.sound_unfailed

pub returns-in-Ok-End-clause-link_unfailed : goal.returns-in-Ok-End-clause-link_unfailed
returns-in-Ok-End-clause-link_unfailed g c = inr c.in-Ok-End.ensures.unfailed

pub returns-in-Ok-End-clause-sound_unfailed : goal.returns-in-Ok-End-clause-sound_unfailed
returns-in-Ok-End-clause-sound_unfailed g c = inr refl
