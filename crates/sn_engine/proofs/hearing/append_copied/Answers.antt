use Rattle.std.proofs.Common.{◌≡◌, ◌+◌, ◌*◌, ◌++◌, ◌∷◌, [], length, length-append, le_refl, refl, ap, ◌∙◌, arith, rules, ℕ, ℤ, List}
use Rattle.std.specs.Prelude.{slice_index, FitsSigned}
use Rattle.std.specs.Int.{w32}
use Rattle.std.proofs.lemmas.Int.{to_z-of_z}
use Rattle.sn_mem.specs.Blocks.{sample_in, table}
use Rattle.sn_engine.proofs.HearingLemmas.{none_put, put_more, words_same}
use Rattle.sn_engine.proofs.hearing.append_copied.Goals as goal

pub loop-bus-init : goal.loop-bus-init
loop-bus-init c = record {
  samples = none_put _ c.args.samples.now.items;
  count = omega arith;
  room = le_refl _;
  same = refl;
}

pub loop-bus-preserved : goal.loop-bus-preserved
loop-bus-preserved c =
    let ws : List ℕ = c.args.memory.now.words in
    let i = c.loop-bus.invariant in
    let f : ℕ → ℤ = λ n. sample_in (slice_index ws (c.args.at + 64 * n + c.args.frame)) in
    let sample : c.sample_at.result ≡ f c.loop-bus.bus = c.sample_at.ensures.sample ∙ ap (λ (us : List ℕ). sample_in (slice_index us (c.args.at + 64 * c.loop-bus.bus + c.args.frame))) (words_same i.same) in
    let fits : FitsSigned w32 c.sample_at.result = search rules in
    let more : length c.put_sample.new.samples.items ≡ length c.loop-bus.samples.items + 1 = ap length c.put_sample.ensures.samples ∙ length-append c.loop-bus.samples.items (_ ∷ []) in
    record {
      samples = put_more f c.args.samples.now.items c.loop-bus.samples.items c.put_sample.new.samples.items c.loop-bus.bus _ i.samples (to_z-of_z w32 c.sample_at.result fits ∙ sample) c.put_sample.ensures.samples;
      count = omega (arith, i.count, more);
      room = omega (arith, i.room, c.put_sample.ensures.room);
      same = c.sample_at.ensures.same ∙ i.same;
    }

pub returns-clause-samples : goal.returns-clause-samples
returns-clause-samples c =
    let last : c.loop-bus.bus ≡ c.args.channels = omega (arith, c.loop-bus-test.false, c.loop-bus.auto.bus-end) in
    c.loop-bus.invariant.samples ∙ ap (λ (n : ℕ). c.args.samples.now.items ++ table (λ k. sample_in (slice_index c.args.memory.now.words (c.args.at + 64 * k + c.args.frame))) n) last

pub sample_at-requires : goal.sample_at-requires
sample_at-requires c = omega (arith, c.requires.inside, c.requires.channels, c.requires.frame, c.loop-bus-test.true, ap length (words_same c.loop-bus.invariant.same))
