use Rattle.std.proofs.Common.{◌<◌, ℕ, ℤ, List, Some, None, length, get_or, to_z, of_z, w32, SFits, rules, refl, sym, ap, ◌∙◌, arith}
use Rattle.std.proofs.lemmas.Int.{to_z-of_z}
use Rattle.sn_mem.specs.Buffers.{buffer_of}
use Rattle.sn_mem.proofs.Steps.{length-set_at}
use Rattle.sn_mem.proofs.Tables.{table_none, table_step}
use Rattle.sn_mem.proofs.Feet.{read_part}
use Rattle.sn_io.specs.BufferUnits.{sample_between}
use Rattle.sn_io.proofs.buffer_samples.gather_channel_between.Goals as goal

pub sample_between-requires-clause-reads : goal.sample_between-requires-clause-reads
sample_between-requires-clause-reads g c = read_part (g.P.Port.foot c.args.port.now) (g.P.Port.foot c.loop-frame.port) c.args.place.extent.at c.args.place.extent.len c.args.place.extent.at c.args.place.extent.len c.requires.reads c.loop-frame.invariant.foot (omega arith) (omega arith)

pub loop-frame-init : goal.loop-frame-init
loop-frame-init g c = record { long = refl; made = sym (table_none (λ k. sample_between (Some (buffer_of (g.P.Port.words c.args.port.now) c.args.place)) (get_or c.args.points.now k None) c.args.channel)); words = refl; foot = refl; rest = refl }

pub loop-frame-preserved : goal.loop-frame-preserved
loop-frame-preserved g c =
    let ws = g.P.Port.words c.args.port.now in
    let i = c.loop-frame.invariant in
    let f : ℕ → ℤ = λ k. sample_between (Some (buffer_of ws c.args.place)) (get_or c.args.points.now k None) c.args.channel in
    let fits : SFits w32 c.sample_between.result = search rules in
    let lt : c.loop-frame.frame < length c.loop-frame.samples = omega (arith, i.long) in record {
      long = length-set_at c.loop-frame.samples c.loop-frame.frame (to_z w32 (of_z w32 c.sample_between.result)) 64 i.long;
      made = table_step f c.loop-frame.samples c.loop-frame.frame (to_z w32 (of_z w32 c.sample_between.result)) lt i.made
          (to_z-of_z w32 c.sample_between.result fits ∙ (c.sample_between.ensures.value ∙ ap (λ (us : List ℕ). sample_between (Some (buffer_of us c.args.place)) (get_or c.args.points.now c.loop-frame.frame None) c.args.channel) i.words));
      words = c.sample_between.ensures.words ∙ i.words;
      foot = c.sample_between.ensures.port.0 ∙ i.foot;
      rest = c.sample_between.ensures.port.1 ∙ i.rest;
    }
