use Rattle.std.proofs.Common.{ℕ, ◌+◌, List, ℤ, None, length, get_or, refl, sym, ap, ◌∙◌}
use Rattle.std.specs.Option.{option_map}
use Rattle.sn_mem.specs.Blocks.{table}
use Rattle.sn_mem.specs.Buffers.{buffer_of}
use Rattle.sn_mem.proofs.Tables.{table_none, table_push, length-table}
use Rattle.sn_io.specs.BufferUnits.{sample_between}
use Rattle.sn_io.proofs.buffer_samples.gather_between.Goals as goal

pub loop-channel-init : goal.loop-channel-init
loop-channel-init g c =
    let ws = g.P.Port.words c.args.port.now in record {
      made = c.clear.ensures ∙ sym (table_none (λ i. table (λ k. sample_between (option_map (buffer_of ws) c.args.place) (get_or c.args.points.now k None) i) 64));
      long = ap (λ (bs : List (List ℤ)). length bs) c.clear.ensures;
      words = refl;
      foot = refl;
      rest = refl;
    }

pub loop-channel-preserved : goal.loop-channel-preserved
loop-channel-preserved g c =
    let ws = g.P.Port.words c.args.port.now in
    let f : ℕ → List ℤ = λ i. table (λ k. sample_between (option_map (buffer_of ws) c.args.place) (get_or c.args.points.now k None) i) 64 in
    let i = c.loop-channel.invariant in
    let made = table_push f c.loop-channel.channel c.loop-channel.outputs c.push.new.self c.channel_between-samples.result i.made
    (c.channel_between-samples.ensures.value ∙ ap (λ (us : List ℕ). table (λ k. sample_between (option_map (buffer_of us) c.args.place) (get_or c.args.points.now k None) c.loop-channel.channel) 64) i.words) c.push.ensures in
    record {
      made = made;
      long = ap (λ (bs : List (List ℤ)). length bs) made ∙ length-table f (c.loop-channel.channel + 1);
      words = c.channel_between-samples.ensures.words ∙ i.words;
      foot = c.channel_between-samples.ensures.port.0 ∙ i.foot;
      rest = c.channel_between-samples.ensures.port.1 ∙ i.rest;
    }
