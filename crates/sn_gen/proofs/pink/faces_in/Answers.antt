use Rattle.std.proofs.Common.{◌<◌, ◌+◌, length, get_or, SFits, w32, to_z, of_z, refl, sym, ◌∙◌, rules, arith}
use Rattle.std.proofs.lemmas.Int.{to_z-of_z}
use Rattle.sn_mem.specs.Blocks.{sample_in}
use Rattle.sn_mem.proofs.Steps.{length-set_at}
use Rattle.sn_mem.proofs.Tables.{table_none, table_step}
use Rattle.sn_gen.proofs.pink.faces_in.Goals as goal

pub loop-die-init : goal.loop-die-init
loop-die-init c = record { long = refl; made = sym (table_none (λ j. sample_in (get_or c.args.words.now (3 + j) 0))) }

pub loop-die-preserved : goal.loop-die-preserved
loop-die-preserved c =
    let i = c.loop-die.invariant in
    let k = c.loop-die.die in
    let fits : SFits w32 c.sample_of.result = search rules in
    let lt : k < length c.loop-die.faces = omega (arith, i.long) in
    record {
      long = length-set_at c.loop-die.faces k (to_z w32 (of_z w32 c.sample_of.result)) 16 i.long;
      made = table_step (λ j. sample_in (get_or c.args.words.now (3 + j) 0)) c.loop-die.faces k (to_z w32 (of_z w32 c.sample_of.result)) lt i.made
          (to_z-of_z w32 c.sample_of.result fits ∙ c.sample_of.ensures);
    }
