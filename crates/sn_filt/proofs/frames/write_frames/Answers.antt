use Rattle.std.proofs.Common.{◌<◌, ◌∙◌, length, SFits, w32, to_z, of_z, rules, arith, sym}
use Rattle.std.proofs.lemmas.Int.{to_z-of_z}
use Rattle.sn_mem.proofs.Steps.{length-set_at}
use Rattle.sn_mem.proofs.Tables.{table_none, table_step}
use Rattle.sn_filt.proofs.frames.write_frames.Goals as goal

pub loop-frame-init : goal.loop-frame-init
loop-frame-init g c = record { long = search rules; made = sym (table_none (g.U.Framewise.value c.args.unit.now c.args.inputs.now)) }

pub loop-frame-preserved : goal.loop-frame-preserved
loop-frame-preserved g c =
    let i = c.loop-frame.invariant in
    let k = c.loop-frame.frame in
    let fits : SFits w32 c.sample.result = search rules in
    let lt : k < length c.loop-frame.samples = omega arith in
    record {
      long = length-set_at c.loop-frame.samples k (to_z w32 (of_z w32 c.sample.result)) 64 i.long;
      made = table_step (g.U.Framewise.value c.args.unit.now c.args.inputs.now) c.loop-frame.samples k (to_z w32 (of_z w32 c.sample.result)) lt i.made (to_z-of_z w32 c.sample.result fits ∙ c.sample.ensures);
    }
