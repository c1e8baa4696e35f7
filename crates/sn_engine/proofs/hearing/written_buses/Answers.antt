use Rattle.std.proofs.Common.{◌≡◌, ◌<◌, ◌+◌, ◌==◌, ℕ, List, length, length-set, refl, ap, subst, ◌∙◌, arith}
use Rattle.sn_mem.specs.Buses.{audio_bus}
use Rattle.sn_engine.specs.Hearing.{AreWritten}
use Rattle.sn_engine.proofs.HearingLemmas.{one_more, words_same, still_wide}
use Rattle.sn_engine.proofs.hearing.written_buses.Goals as goal

pub loop-bus-init : goal.loop-bus-init
loop-bus-init c = record {
  size = refl;
  written = λ n low. absurd (omega (arith, low));
  same = refl;
}

pub loop-bus-preserved : goal.loop-bus-preserved
loop-bus-preserved c =
    let i = c.loop-bus.invariant in
    let ws : List ℕ = c.args.memory.now.words in
    let low : c.loop-bus.bus < length c.loop-bus.written = omega (arith, c.loop-bus-test.true, i.size) in
    let tag : c.is_written.result ≡ ((audio_bus ws c.loop-bus.bus).written == c.args.block + 1) =
    c.is_written.ensures.tag ∙ ap (λ (us : List ℕ). (audio_bus us c.loop-bus.bus).written == c.args.block + 1) (words_same i.same) in
    record {
      size = length-set c.loop-bus.written c.loop-bus.bus c.is_written.result ∙ i.size;
      written = one_more c.args.block ws c.loop-bus.written c.loop-bus.bus c.is_written.result low i.written tag;
      same = c.is_written.ensures.same ∙ i.same;
    }

pub returns-clause-written : goal.returns-clause-written
returns-clause-written c =
    let last : c.loop-bus.bus ≡ 8 = omega (arith, c.loop-bus-test.false, c.loop-bus.auto.bus-end) in
    subst (λ (n : ℕ). AreWritten c.args.block c.args.memory.now.words n c.loop-bus.written) last c.loop-bus.invariant.written

pub is_written-requires-clause-wide : goal.is_written-requires-clause-wide
is_written-requires-clause-wide c = still_wide c.loop-bus.invariant.same c.requires.wide
