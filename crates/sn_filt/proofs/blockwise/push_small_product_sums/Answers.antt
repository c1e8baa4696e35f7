use Rattle.std.proofs.Common.{◌<◌, length, get_or, SFits, w32, to_z, of_z, rules, refl, arith, sym, pos}
use Rattle.sn_mem.proofs.Steps.{length-set_at}
use Rattle.sn_mem.proofs.Tables.{table_none, table_step}
use Rattle.sn_filt.specs.Arithmetic.{mul_add as product_sum}
use Rattle.sn_filt.proofs.PlainLoops.{sum_frame, small_as_read}
use Rattle.sn_filt.proofs.blockwise.push_small_product_sums.Goals as goal

pub loop-frame-init : goal.loop-frame-init
loop-frame-init c = record { long = refl; made = sym (table_none (product_sum c.args.inputs.now)) }

pub small_product-product-requires : goal.small_product-product-requires
small_product-product-requires c =
    let x_fits : SFits w32 (get_or c.block-x.result.now c.loop-frame.frame (pos 0)) = search rules in
    let m_fits : SFits w32 (get_or c.block-m.result.now c.loop-frame.frame (pos 0)) = search rules in
    let inside : c.loop-frame.frame < 64 = omega arith in
    small_as_read c.block-x.result.now c.block-m.result.now c.args.inputs.now c.loop-frame.frame x_fits m_fits c.block-x.ensures c.block-m.ensures (c.requires.small c.loop-frame.frame inside)

pub loop-frame-preserved : goal.loop-frame-preserved
loop-frame-preserved c =
    let i = c.loop-frame.invariant in
    let k = c.loop-frame.frame in
    let fits : SFits w32 c.add.result = search rules in
    let product_fits : SFits w32 c.small_product-product.result = search rules in
    let x_fits : SFits w32 (get_or c.block-x.result.now c.loop-frame.frame (pos 0)) = search rules in
    let m_fits : SFits w32 (get_or c.block-m.result.now c.loop-frame.frame (pos 0)) = search rules in
    let a_fits : SFits w32 (get_or c.block-a.result.now c.loop-frame.frame (pos 0)) = search rules in
    let lt : c.loop-frame.frame < length c.loop-frame.samples = omega arith in
    record {
      long = length-set_at c.loop-frame.samples k (to_z w32 (of_z w32 c.add.result)) 64 i.long;
      made = table_step (product_sum c.args.inputs.now) c.loop-frame.samples k (to_z w32 (of_z w32 c.add.result)) lt i.made
          (sum_frame c.add.result c.small_product-product.result c.block-x.result.now c.block-m.result.now c.block-a.result.now c.args.inputs.now k fits product_fits x_fits m_fits a_fits
          c.small_product-product.ensures.scaled c.add.ensures c.block-x.ensures c.block-m.ensures c.block-a.ensures);
    }
