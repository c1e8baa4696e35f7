use Rattle.std.proofs.Common.{◌<◌, length, get_or, SFits, w32, to_z, of_z, rules, refl, arith, sym, pos}
use Rattle.sn_fixed.specs.Fixed.{mul}
use Rattle.sn_mem.proofs.Steps.{length-set_at}
use Rattle.sn_mem.proofs.Tables.{table_none, table_step}
use Rattle.sn_filt.specs.Arithmetic.{mul as product}
use Rattle.sn_filt.proofs.PlainLoops.{frame_of, small_as_read}
use Rattle.sn_filt.proofs.blockwise.push_small_products.Goals as goal

pub loop-frame-init : goal.loop-frame-init
loop-frame-init c = record { long = refl; made = sym (table_none (product c.args.inputs.now)) }

pub small_product-requires : goal.small_product-requires
small_product-requires c =
    let a_fits : SFits w32 (get_or c.block-a.result.now c.loop-frame.frame (pos 0)) = search rules in
    let b_fits : SFits w32 (get_or c.block-b.result.now c.loop-frame.frame (pos 0)) = search rules in
    let inside : c.loop-frame.frame < 64 = omega arith in
    small_as_read c.block-a.result.now c.block-b.result.now c.args.inputs.now c.loop-frame.frame a_fits b_fits c.block-a.ensures c.block-b.ensures (c.requires.small c.loop-frame.frame inside)

pub loop-frame-preserved : goal.loop-frame-preserved
loop-frame-preserved c =
    let i = c.loop-frame.invariant in
    let k = c.loop-frame.frame in
    let fits : SFits w32 c.small_product.result = search rules in
    let a_fits : SFits w32 (get_or c.block-a.result.now c.loop-frame.frame (pos 0)) = search rules in
    let b_fits : SFits w32 (get_or c.block-b.result.now c.loop-frame.frame (pos 0)) = search rules in
    let lt : c.loop-frame.frame < length c.loop-frame.samples = omega arith in
    record {
      long = length-set_at c.loop-frame.samples k (to_z w32 (of_z w32 c.small_product.result)) 64 i.long;
      made = table_step (product c.args.inputs.now) c.loop-frame.samples k (to_z w32 (of_z w32 c.small_product.result)) lt i.made
          (frame_of mul c.small_product.result c.block-a.result.now c.block-b.result.now c.args.inputs.now 0 1 k fits a_fits b_fits c.small_product.ensures.product c.block-a.ensures c.block-b.ensures);
    }
