use Rattle.std.proofs.Common.{◌≡◌, ◌<◌, ◌+◌, ◌==◌, ◌∷◌, ◌++◌, [], length, length-append, le_refl, refl, ap, sym, ◌∙◌, arith, rules, ℕ, ℤ, List}
use Rattle.std.specs.Prelude.{slice_index_or, FitsSigned}
use Rattle.std.specs.Int.{w32}
use Rattle.std.proofs.lemmas.Int.{to_z-of_z}
use Rattle.sn_mem.specs.Blocks.{table}
use Rattle.sn_mem.specs.Buses.{audio_bus, audio_buses, heard, silent}
use Rattle.sn_engine.specs.Hearing.{AreWritten}
use Rattle.sn_engine.proofs.HearingLemmas.{none_put, put_more, of_bus, words_same, still_wide}
use Rattle.sn_engine.proofs.hearing.append_frame.Goals as goal

pub loop-bus-init : goal.loop-bus-init
loop-bus-init c = record {
  samples = λ b are. none_put _ c.args.samples.now.items;
  count = omega arith;
  room = le_refl _;
  same = refl;
}

pub loop-bus-preserved : goal.loop-bus-preserved
loop-bus-preserved c =
    let ws = c.args.memory.now.words in
    let i = c.loop-bus.invariant in
    let bus : ℕ = c.loop-bus.bus in
    let low : bus < 8 = omega (arith, c.loop-bus-test.true, c.requires.channels) in
    let f : ℕ → ℕ → ℤ = λ b n. heard b (slice_index_or (audio_buses ws) n silent) c.args.frame in
    let sample : (b : ℕ) → AreWritten b ws 8 c.args.written.now → c.heard.result ≡ f b bus = λ b are.
    c.heard.ensures.sample b (are bus low ∙ ap (λ (us : List ℕ). (audio_bus us bus).written == b + 1) (sym (words_same i.same)))
    ∙ ap (λ (us : List ℕ). heard b (audio_bus us bus) c.args.frame) (words_same i.same)
    ∙ sym (of_bus b c.args.frame ws bus (omega (arith, low))) in
    let fits : FitsSigned w32 c.heard.result = search rules in
    let more : length c.put_sample.new.samples.items ≡ length c.loop-bus.samples.items + 1 = ap length c.put_sample.ensures.samples ∙ length-append c.loop-bus.samples.items (_ ∷ []) in
    record {
      samples = λ b are. put_more (f b) c.args.samples.now.items c.loop-bus.samples.items c.put_sample.new.samples.items bus _ (i.samples b are) (to_z-of_z w32 c.heard.result fits ∙ sample b are) c.put_sample.ensures.samples;
      count = omega (arith, i.count, more);
      room = omega (arith, i.room, c.put_sample.ensures.room);
      same = c.heard.ensures.same ∙ i.same;
    }

pub returns-clause-samples : goal.returns-clause-samples
returns-clause-samples c = λ b are.
    let last : c.loop-bus.bus ≡ c.args.channels = omega (arith, c.loop-bus-test.false, c.loop-bus.auto.bus-end) in
    c.loop-bus.invariant.samples b are ∙ ap (λ (n : ℕ). c.args.samples.now.items ++ table (λ k. heard b (slice_index_or (audio_buses c.args.memory.now.words) k silent) c.args.frame) n) last

pub heard-requires-clause-wide : goal.heard-requires-clause-wide
heard-requires-clause-wide c = still_wide c.loop-bus.invariant.same c.requires.wide
