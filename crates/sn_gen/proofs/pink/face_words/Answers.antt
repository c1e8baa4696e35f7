use Rattle.std.proofs.Common.{◌<◌, length, get_or, pos, SFits, w32, refl, sym, ◌∙◌, ap, rules, arith}
use Rattle.std.proofs.lemmas.Int.{to_z-of_z}
use Rattle.sn_mem.specs.Blocks.{word_for}
use Rattle.sn_mem.proofs.Steps.{length-set_at}
use Rattle.sn_mem.proofs.Tables.{table_none, table_step}
use Rattle.sn_gen.proofs.pink.face_words.Goals as goal

pub loop-die-init : goal.loop-die-init
loop-die-init c = record { long = refl; made = sym (table_none (λ j. word_for (get_or c.args.faces j (pos 0)))) }

pub loop-die-preserved : goal.loop-die-preserved
loop-die-preserved c =
    let i = c.loop-die.invariant in
    let k = c.loop-die.die in
    let lt : k < length c.loop-die.words = omega (arith, i.long) in
    let fits : SFits w32 (get_or c.args.faces k (pos 0)) = search rules in
    record {
      long = length-set_at c.loop-die.words k c.word_of.result 16 i.long;
      made = table_step (λ j. word_for (get_or c.args.faces j (pos 0))) c.loop-die.words k c.word_of.result lt i.made
          (c.word_of.ensures.value ∙ ap word_for (to_z-of_z w32 (get_or c.args.faces k (pos 0)) fits));
    }
