use Rattle.std.proofs.Common.{◌≡◌, ◌∙◌, length, ap, le_refl, arith, refl}
use Rattle.sn_server.proofs.EventLemmas.{close_on, begins_serving, begins_ready, serves_on, serves_to, serves_nothing, as_long}
use Rattle.sn_render.proofs.FaultLemmas.{none_failed}
use Rattle.sn_server.specs.declared.ended.Ended.TheVariants.{LinkFault, SoundFault}
use Rattle.sn_server.proofs.FaultLemmas.{either_end, goes_on}
use Rattle.sn_server.proofs.serving.take_events.Goals as goal

pub returns-in_default-clause-served : goal.returns-in_default-clause-served
returns-in_default-clause-served g c = serves_nothing c.args.engine.now.running.settings c.args.engine.now.running.waiting.base (g.L.Link.left c.args.link.now) (g.O.Sink.taken c.args.sound.now) (g.L.Link.sent c.args.link.now)

pub loop-how-init : goal.loop-how-init
loop-how-init g c =
    let s = c.args.engine.now.running.settings in
    let base = c.args.engine.now.running.waiting.base in
    record {
      serving = begins_serving s base (g.L.Link.left c.args.link.now) (g.O.Sink.taken c.args.sound.now) (g.L.Link.sent c.args.link.now) c.args.engine.now.running c.new-framer.result c.requires.opened c.new-framer.ensures;
      ready = begins_ready s base c.args.engine.now.running c.new-framer.result c.requires.opened c.new-framer.ensures;
      piece = c.in-Ok.ensures;
      link_later = le_refl _;
      sound_later = le_refl _;
      still = (refl, refl);
    }

pub loop-how-preserved : goal.loop-how-preserved
loop-how-preserved g c =
    let s = c.args.engine.now.running.settings in
    let base = c.args.engine.now.running.waiting.base in
    let l = c.loop-how in
    let i = l.invariant in
    let n = c.serve_event.new in
    let r = c.in-Ok-serve_event.ensures in
    record {
      serving = serves_on s base (g.L.Link.left c.args.link.now) (g.L.Link.left l.link) (g.L.Link.left n.link) (g.O.Sink.taken c.args.sound.now) (g.O.Sink.taken l.sound) (g.O.Sink.taken n.sound)
          (g.L.Link.sent c.args.link.now) (g.L.Link.sent l.link) (g.L.Link.sent n.link) l.engine.running n.engine.running l.framer n.framer i.serving
          (r.took i.serving.live (g.O.Sink.taken c.args.sound.now) (g.L.Link.sent c.args.link.now) i.serving.stands);
      ready = r.ready;
      piece = as_long l.piece.len l.piece.items n.piece l.piece.ok.0 (c.serve_event.auto.piece ∙ ap length c.deref_mut.ensures.value) ∙ i.piece;
      link_later = omega (arith, i.link_later, c.serve_event.ensures.link_later);
      sound_later = omega (arith, i.sound_later, c.serve_event.ensures.sound_later);
      still = none_failed _ _ _ _ _ _ i.still (goes_on _ LinkFault _ r.link_unfailed, goes_on _ SoundFault _ r.sound_unfailed);
    }

pub returns-in-Err-clause-served : goal.returns-in-Err-clause-served
returns-in-Err-clause-served g c =
    let s = c.args.engine.now.running.settings in
    let base = c.args.engine.now.running.waiting.base in
    let l = c.loop-how in
    let i = l.invariant in
    let n = c.serve_event.new in
    serves_to s base (g.L.Link.left c.args.link.now) (g.L.Link.left l.link) (g.L.Link.left n.link) (g.O.Sink.taken c.args.sound.now) (g.O.Sink.taken l.sound) (g.O.Sink.taken n.sound)
    (g.L.Link.sent c.args.link.now) (g.L.Link.sent l.link) (g.L.Link.sent n.link) l.engine.running l.framer c.in-Err.how i.serving
    (c.in-Err.ensures.took i.serving.live (g.O.Sink.taken c.args.sound.now) (g.L.Link.sent c.args.link.now) i.serving.stands)

pub returns-in-Err-clause-close : goal.returns-in-Err-clause-close
returns-in-Err-clause-close g c =
    let i = c.loop-how.invariant.serving in
    close_on c.in-Err.how (g.L.Link.left c.args.link.now) (g.L.Link.left c.loop-how.link) (g.L.Link.left c.serve_event.new.link) i.events i.taken c.in-Err.ensures.close

pub returns-in-Err-clause-link_unfailed : goal.returns-in-Err-clause-link_unfailed
returns-in-Err-clause-link_unfailed g c =
    let l = c.loop-how in
    let new = g.L.Link.faults c.serve_event.new.link in
    either_end c.in-Err.how LinkFault (new ≡ g.L.Link.faults l.link) (new ≡ g.L.Link.faults c.args.link.now) (λ still. still ∙ l.invariant.still.0) c.in-Err.ensures.link_unfailed

pub returns-in-Err-clause-sound_unfailed : goal.returns-in-Err-clause-sound_unfailed
returns-in-Err-clause-sound_unfailed g c =
    let l = c.loop-how in
    let new = g.O.Sink.faults c.serve_event.new.sound in
    either_end c.in-Err.how SoundFault (new ≡ g.O.Sink.faults l.sound) (new ≡ g.O.Sink.faults c.args.sound.now) (λ still. still ∙ l.invariant.still.1) c.in-Err.ensures.sound_unfailed
