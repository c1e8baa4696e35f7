use Rattle.std.proofs.Common.{◌≡◌, ◌∙◌, ◌+◌, ◌-◌, ℕ, suc, ap, inr, refl, le_refl, arith}
use Rattle.sn_ports.proofs.LinkLemmas.{keeps_events-trans}
use Rattle.sn_server.specs.PlayEvents.{tick}
use Rattle.sn_server.proofs.EventLemmas.{known_same}
use Rattle.sn_server.proofs.ServingLemmas.{ticks_on, ticked_ready, ticked_block, all_ticked, worn_tick, ended_tick, follows_err, failed}
use Rattle.sn_render.proofs.StepLemmas.{grows_not}
use Rattle.sn_render.proofs.FaultLemmas.{none_failed}
use Rattle.sn_server.specs.declared.ended.Ended.TheVariants.{LinkFault, SoundFault}
use Rattle.sn_server.proofs.FaultLemmas.{either_so, either_err, goes_on}
use Rattle.sn_server.proofs.ticking.ticks.Goals as goal

pub returns-in_err-check_worn-clause-follows : goal.returns-in_err-check_worn-clause-follows
returns-in_err-check_worn-clause-follows g c = λ v sound_old sent_old live.
    let l = c.loop-done in
    let sound_new = g.O.Sink.taken l.sound in
    let sent_new = g.L.Link.sent l.link in
    let how = c.in_err-check_worn.field-0.0 in
    let course = tick c.args.count v in
    let more : c.args.count - l.done ≡ suc (c.args.count - (l.done + 1)) = omega (arith, c.loop-done-test.true) in
    follows_err sound_old sound_new sent_old sent_new v course l.engine.running c.args.framer.now c.from_residual.result how c.from_residual.ensures.1
    (worn_tick sound_old sound_new sent_old sent_new v course (c.args.count - l.done) (c.args.count - (l.done + 1)) l.engine.running c.args.framer.now how (l.invariant.follows v sound_old sent_old live) more c.in_err-check_worn.ensures.worn)

pub returns-in_err-tick-clause-follows : goal.returns-in_err-tick-clause-follows
returns-in_err-tick-clause-follows g c = λ v sound_old sent_old live.
    let l = c.loop-done in
    let sound_new = g.O.Sink.taken c.tick.new.sound in
    let sent_new = g.L.Link.sent c.tick.new.link in
    let how = c.in_err-tick.field-0.0 in
    let course = tick c.args.count v in
    let enough = c.in_ok-check_worn.ensures.ok in
    follows_err sound_old sound_new sent_old sent_new v course c.tick.new.engine.running c.args.framer.now c.from_residual-in_err-tick.result how c.from_residual-in_err-tick.ensures.1
    (ended_tick sound_old (g.O.Sink.taken l.sound) sound_new sent_old (g.L.Link.sent l.link) sent_new v course (c.args.count - l.done) _ l.engine.running c.args.framer.now how (l.invariant.follows v sound_old sent_old live)
    (omega (arith, c.loop-done-test.true)) (omega (arith, c.min-most.ensures, c.from.ensures)) (omega (arith, c.min-most.ensures, c.from.ensures, c.block.ensures, enough.block)) enough c.in_err-tick.ensures.only c.in_err-tick.ensures.quit c.tick.ensures.part)

pub loop-done-init : goal.loop-done-init
loop-done-init g c =
    let all : c.args.count - 0 ≡ c.args.count = omega arith in
    record {
      follows = λ v sound_old sent_old live. record { live = v; course = ap (λ (n : ℕ). tick n v) all; grown = grows_not v.play; stands = live };
      few = omega arith;
      first = c.block-first.ensures;
      ready = c.requires.ready;
      block = omega arith;
      events = known_same (g.L.Link.left c.args.link.now) (λ a b. b ≡ a) (λ a. refl);
      link_later = le_refl _;
      sound_later = le_refl _;
      still = (refl, refl);
    }

pub loop-done-preserved : goal.loop-done-preserved
loop-done-preserved g c =
    let l = c.loop-done in
    let i = l.invariant in
    let t = c.in_ok-tick.ensures.block in
    let sound_mid = g.O.Sink.taken l.sound in
    let sound_new = g.O.Sink.taken c.tick.new.sound in
    let sent_mid = g.L.Link.sent l.link in
    let sent_new = g.L.Link.sent c.tick.new.link in
    let enough = c.in_ok-check_worn.ensures.ok in
    let counted = ticked_block _ sound_mid sound_new sent_mid sent_new l.engine.running c.tick.new.engine.running t in
    record {
      follows = λ v sound_old sent_old live. ticks_on sound_old sound_mid sound_new sent_old sent_mid sent_new v (tick c.args.count v) (c.args.count - l.done) _ _ l.engine.running c.tick.new.engine.running c.args.framer.now (i.follows v sound_old sent_old live) enough t
          (omega (arith, c.min-most.ensures, c.from.ensures)) (omega (arith, c.min-most.ensures, c.from.ensures, c.block.ensures, enough.block)) (omega (arith, c.block-in-loop-done.ensures, counted, i.block, i.first, i.few, t.few, c.min-most.ensures, c.from.ensures));
      few = omega (arith, c.block-in-loop-done.ensures, counted, i.block, i.first, i.few, t.few, c.min-most.ensures, c.from.ensures);
      first = i.first;
      ready = ticked_ready _ sound_mid sound_new sent_mid sent_new l.engine.running c.tick.new.engine.running c.args.framer.now i.ready t;
      block = omega (arith, c.block-in-loop-done.ensures, counted, i.block, i.first, i.few, t.few, c.min-most.ensures, c.from.ensures);
      events = keeps_events-trans (g.L.Link.left c.args.link.now) (g.L.Link.left l.link) (g.L.Link.left c.tick.new.link) i.events c.tick.ensures.events;
      link_later = omega (arith, i.link_later, c.tick.ensures.link_later);
      sound_later = omega (arith, i.sound_later, c.tick.ensures.sound_later);
      still = none_failed _ _ _ _ _ _ i.still (goes_on _ LinkFault _ c.in_ok-tick.ensures.link_unfailed, goes_on _ SoundFault _ c.in_ok-tick.ensures.sound_unfailed);
    }

pub returns-clause-follows : goal.returns-clause-follows
returns-clause-follows g c = λ v sound_old sent_old live.
    let l = c.loop-done in
    let none : c.args.count - l.done ≡ 0 = omega (arith, c.loop-done-test.false) in
    all_ticked sound_old (g.O.Sink.taken l.sound) sent_old (g.L.Link.sent l.link) v (tick c.args.count v) (c.args.count - l.done) l.engine.running c.args.framer.now (l.invariant.follows v sound_old sent_old live) none

pub returns-in_err-check_worn-clause-link_unfailed : goal.returns-in_err-check_worn-clause-link_unfailed
returns-in_err-check_worn-clause-link_unfailed g c = inr c.loop-done.invariant.still.0

pub returns-in_err-check_worn-clause-sound_unfailed : goal.returns-in_err-check_worn-clause-sound_unfailed
returns-in_err-check_worn-clause-sound_unfailed g c = inr c.loop-done.invariant.still.1

pub returns-in_err-tick-clause-link_unfailed : goal.returns-in_err-tick-clause-link_unfailed
returns-in_err-tick-clause-link_unfailed g c =
    let r = c.from_residual-in_err-tick in
    let how = c.in_err-tick.field-0.0 in
    let old = g.L.Link.faults c.args.link.now in
    let mid = g.L.Link.faults c.loop-done.link in
    let new = g.L.Link.faults c.tick.new.link in
    either_err r.result how LinkFault (new ≡ old) r.ensures.1
    (either_so (failed how ≡ failed LinkFault) (new ≡ mid) (new ≡ old) (λ still. still ∙ c.loop-done.invariant.still.0) c.in_err-tick.ensures.link_unfailed)

pub returns-in_err-tick-clause-sound_unfailed : goal.returns-in_err-tick-clause-sound_unfailed
returns-in_err-tick-clause-sound_unfailed g c =
    let r = c.from_residual-in_err-tick in
    let how = c.in_err-tick.field-0.0 in
    let old = g.O.Sink.faults c.args.sound.now in
    let mid = g.O.Sink.faults c.loop-done.sound in
    let new = g.O.Sink.faults c.tick.new.sound in
    either_err r.result how SoundFault (new ≡ old) r.ensures.1
    (either_so (failed how ≡ failed SoundFault) (new ≡ mid) (new ≡ old) (λ still. still ∙ c.loop-done.invariant.still.1) c.in_err-tick.ensures.sound_unfailed)

pub returns-clause-link_unfailed : goal.returns-clause-link_unfailed
returns-clause-link_unfailed g c = inr c.loop-done.invariant.still.0

pub returns-clause-sound_unfailed : goal.returns-clause-sound_unfailed
returns-clause-sound_unfailed g c = inr c.loop-done.invariant.still.1

pub overflow_sub-done : goal.overflow_sub-done
overflow_sub-done g c =
    let l = c.loop-done in
    let t = c.in_ok-tick.ensures.block in
    let counted = ticked_block _ (g.O.Sink.taken l.sound) (g.O.Sink.taken c.tick.new.sound) (g.L.Link.sent l.link) (g.L.Link.sent c.tick.new.link) l.engine.running c.tick.new.engine.running t in
    omega (arith, c.block-in-loop-done.ensures, counted, l.invariant.block, l.invariant.first)

pub overflow_cast-done : goal.overflow_cast-done
overflow_cast-done g c =
    let l = c.loop-done in
    let t = c.in_ok-tick.ensures.block in
    let counted = ticked_block _ (g.O.Sink.taken l.sound) (g.O.Sink.taken c.tick.new.sound) (g.L.Link.sent l.link) (g.L.Link.sent c.tick.new.link) l.engine.running c.tick.new.engine.running t in
    omega (arith, c.block-in-loop-done.ensures, counted, l.invariant.block, l.invariant.first, l.invariant.few, t.few, c.min-most.ensures, c.from.ensures, c.ranges.count)

pub loop-done-smaller : goal.loop-done-smaller
loop-done-smaller g c =
    let l = c.loop-done in
    let t = c.in_ok-tick.ensures.block in
    let counted = ticked_block _ (g.O.Sink.taken l.sound) (g.O.Sink.taken c.tick.new.sound) (g.L.Link.sent l.link) (g.L.Link.sent c.tick.new.link) l.engine.running c.tick.new.engine.running t in
    omega (arith, c.block-in-loop-done.ensures, counted, l.invariant.block, l.invariant.first, l.invariant.few, t.some, t.few, c.min-most.ensures, c.from.ensures, c.loop-done-test.true)
