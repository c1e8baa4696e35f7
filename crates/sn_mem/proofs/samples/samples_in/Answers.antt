use Rattle.std.proofs.Common.{◌<◌, ◌+◌, length, get_or, SFits, w32, to_z, of_z, refl, sym, ◌∙◌, rules, arith}
use Rattle.std.proofs.lemmas.Int.{to_z-of_z}
use Rattle.sn_mem.specs.Blocks.{sample_in}
use Rattle.sn_mem.proofs.Steps.{length-set_at}
use Rattle.sn_mem.proofs.Tables.{table_none, table_step}
use Rattle.sn_mem.proofs.samples.samples_in.Goals as goal

pub loop-frame-init : goal.loop-frame-init
loop-frame-init c = record { long = refl; made = sym (table_none (λ k. sample_in (get_or c.args.words.now (c.args.at + k) 0))) }

pub loop-frame-preserved : goal.loop-frame-preserved
loop-frame-preserved c =
    let i = c.loop-frame.invariant in
    let k = c.loop-frame.frame in
    let fits : SFits w32 c.sample_of.result = search rules in
    let lt : k < length c.loop-frame.samples = omega (arith, i.long) in
    record {
      long = length-set_at c.loop-frame.samples k (to_z w32 (of_z w32 c.sample_of.result)) 64 i.long;
      made = table_step (λ k. sample_in (get_or c.args.words.now (c.args.at + k) 0)) c.loop-frame.samples k (to_z w32 (of_z w32 c.sample_of.result)) lt i.made
          (to_z-of_z w32 c.sample_of.result fits ∙ c.sample_of.ensures);
    }
