use Rattle.std.proofs.Common.{◌≡◌, ◌∙◌, ◌+◌, ◌<◌, ℕ, ap, length, refl, subst, sym, arith}
use Rattle.sn_engine.specs.Running.{Running}
use Rattle.sn_clients.specs.Looping.{CountedAt}
use Rattle.sn_clients.proofs.FaultLemmas.{counted_so}
use Rattle.sn_clients.proofs.TickLemmas.{block_clients, halted_plays, ticks_begin, ticks_end, ticks_halt, ticks_next}
use Rattle.sn_clients.proofs.playing.play_blocks.Goals as goal

pub loop-init : goal.loop-init
loop-init g c = record {
  plays = λ sinks_first sound_first r h. ticks_begin g.R.Sink.taken g.R.Sink.faults sinks_first c.args.sinks.now c.args.failed.now sound_first (g.O.Sink.taken c.args.sound.now) c.args.count r c.args.engine.now.running h;
  settled = c.requires.settled;
  block = omega arith;
  puts = refl;
  clients = refl;
  flags = refl;
  sinks = refl;
  still = refl;
}

pub tick-requires-clause-block : goal.tick-requires-clause-block
tick-requires-clause-block g c = omega (arith, c.requires.block, c.loop.invariant.block, c.loop-test.true)

pub tick-requires-clause-sinks : goal.tick-requires-clause-sinks
tick-requires-clause-sinks g c κs lives = c.loop.invariant.sinks ∙ c.requires.sinks ∙ sym c.loop.invariant.clients

pub tick-requires-clause-flags : goal.tick-requires-clause-flags
tick-requires-clause-flags g c κs lives = c.loop.invariant.flags ∙ c.requires.flags ∙ sym c.loop.invariant.clients

pub loop-preserved : goal.loop-preserved
loop-preserved g c =
    let l = c.loop in
    let i = l.invariant in
    let n = c.tick.new in
    let t = c.in_ok-tick.ensures.ticked in
    record {
      plays = λ sinks_first sound_first r h. ticks_next g.R.Sink.taken g.R.Sink.faults sinks_first l.sinks n.sinks l.failed n.failed sound_first (g.O.Sink.taken l.sound) (g.O.Sink.taken n.sound) c.args.count l.counter r l.engine.running n.engine.running (i.plays sinks_first sound_first r h) (omega (arith, c.loop-test.true)) t;
      settled = ap (λ (r : Running). r.standing) t.engine;
      block = omega (arith, ap (λ (r : Running). r.block) t.engine, i.block);
      puts = ap (λ (r : Running). r.waiting.puts) t.engine ∙ i.puts;
      clients = ap (λ (r : Running). length r.replies) t.engine ∙ block_clients l.engine.running ∙ i.clients;
      flags = t.replies.flags ∙ i.sinks ∙ c.requires.sinks ∙ sym c.requires.flags;
      sinks = t.replies.sinks ∙ i.sinks;
      still = c.in_ok-tick.ensures.counted ∙ i.still;
    }

pub returns-clause-played : goal.returns-clause-played
returns-clause-played g c = λ sinks_first sound_first r h.
    let l = c.loop in
    ticks_end g.R.Sink.taken g.R.Sink.faults sinks_first l.sinks l.failed sound_first (g.O.Sink.taken l.sound) c.args.count l.counter r l.engine.running (l.invariant.plays sinks_first sound_first r h) (omega (arith, c.loop-test.false, l.auto))

pub returns-in_err-tick-clause-played : goal.returns-in_err-tick-clause-played
returns-in_err-tick-clause-played g c = λ sinks_first sound_first r h.
    let l = c.loop in
    let n = c.tick.new in
    let halt = c.in_err-tick.field-0.0 in
    halted_plays g.R.Sink.taken g.R.Sink.faults sinks_first n.sinks n.failed sound_first (g.O.Sink.taken n.sound) _ n.engine.running c.from_residual.result halt c.from_residual.ensures.1
    (ticks_halt g.R.Sink.taken g.R.Sink.faults halt sinks_first l.sinks n.sinks l.failed n.failed sound_first (g.O.Sink.taken l.sound) (g.O.Sink.taken n.sound) c.args.count l.counter r l.engine.running n.engine.running (l.invariant.plays sinks_first sound_first r h) (omega (arith, c.loop-test.true)) c.in_err-tick.ensures.ticked)

pub returns-in_err-tick-clause-counted : goal.returns-in_err-tick-clause-counted
returns-in_err-tick-clause-counted g c =
    let halt = c.in_err-tick.field-0.0 in
    let now = g.O.Sink.faults c.tick.new.sound in
    counted_so c.from_residual.result halt (g.O.Sink.faults c.args.sound.now) now c.from_residual.ensures.1
    (subst (λ (before : ℕ). CountedAt halt before now) c.loop.invariant.still c.in_err-tick.ensures.counted)
