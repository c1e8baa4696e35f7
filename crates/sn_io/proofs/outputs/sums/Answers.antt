use Rattle.std.proofs.Common.{◌≡◌, ◌<◌, ◌+ℤ◌, length, get_or, pos, SFits, w32, to_z, of_z, refl, sym, ap, ◌∙◌, rules, arith}
use Rattle.std.proofs.lemmas.Int.{to_z-of_z}
use Rattle.sn_fixed.specs.Fixed.{sat}
use Rattle.sn_mem.proofs.Steps.{length-set_at}
use Rattle.sn_mem.proofs.Tables.{table_none, table_step}
use Rattle.sn_io.proofs.Samples.{sat_same}
use Rattle.sn_io.proofs.outputs.sums.Goals as goal

pub loop-frame-init : goal.loop-frame-init
loop-frame-init c = record { long = refl; made = sym (table_none (λ k. sat (get_or c.args.a.now k (pos 0) +ℤ sat (get_or c.args.b.now k (pos 0))))) }

pub loop-frame-preserved : goal.loop-frame-preserved
loop-frame-preserved c =
    let i = c.loop-frame.invariant in
    let k = c.loop-frame.frame in
    let fits : SFits w32 c.add.result = search rules in
    let a : SFits w32 (get_or c.args.a.now k (pos 0)) = search rules in
    let b : SFits w32 (get_or c.args.b.now k (pos 0)) = search rules in
    let lt : k < length c.loop-frame.samples = omega (arith, i.long) in
    let added : c.add.result ≡ sat (get_or c.args.a.now k (pos 0) +ℤ sat (get_or c.args.b.now k (pos 0))) =
    c.add.ensures
    ∙ (ap (λ y. sat (y +ℤ to_z w32 (of_z w32 (get_or c.args.b.now k (pos 0))))) (to_z-of_z w32 (get_or c.args.a.now k (pos 0)) a)
    ∙ ap (λ y. sat (get_or c.args.a.now k (pos 0) +ℤ y)) (to_z-of_z w32 (get_or c.args.b.now k (pos 0)) b ∙ sym (sat_same (get_or c.args.b.now k (pos 0)) b))) in
    record {
      long = length-set_at c.loop-frame.samples k (to_z w32 (of_z w32 c.add.result)) 64 i.long;
      made = table_step (λ k. sat (get_or c.args.a.now k (pos 0) +ℤ sat (get_or c.args.b.now k (pos 0)))) c.loop-frame.samples k (to_z w32 (of_z w32 c.add.result)) lt i.made
          (to_z-of_z w32 c.add.result fits ∙ added);
    }
