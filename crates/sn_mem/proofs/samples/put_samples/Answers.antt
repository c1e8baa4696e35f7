use Rattle.std.proofs.Common.{◌≡◌, ◌+◌, ℕ, length, get_or, pos, SFits, w32, refl, sym, ap, ◌∙◌, rules, arith}
use Rattle.std.proofs.lemmas.Int.{to_z-of_z}
use Rattle.sn_mem.specs.Blocks.{put, table, word_for}
use Rattle.sn_mem.proofs.Steps.{length-set_at, put_none}
use Rattle.sn_mem.proofs.Tables.{table_none}
use Rattle.sn_mem.proofs.Windows.{put_table}
use Rattle.sn_mem.proofs.samples.put_samples.Goals as goal

pub loop-frame-init : goal.loop-frame-init
loop-frame-init c =
    let f = λ (k : ℕ). word_for (get_or c.args.samples.now k (pos 0)) in
    record { long = refl; made = sym (ap (put c.args.words.now c.args.at) (table_none f) ∙ put_none c.args.words.now c.args.at) }

pub loop-frame-preserved : goal.loop-frame-preserved
loop-frame-preserved c =
    let i = c.loop-frame.invariant in
    let k = c.loop-frame.frame in
    let fits : SFits w32 (get_or c.args.samples.now k (pos 0)) = search rules in
    record {
      long = length-set_at c.loop-frame.words (c.args.at + k) c.word_of.result (length c.args.words.now) i.long;
      made = put_table c.args.words.now c.loop-frame.words c.args.at k c.word_of.result (λ k. word_for (get_or c.args.samples.now k (pos 0))) i.made
          (c.word_of.ensures.value ∙ ap word_for (to_z-of_z w32 (get_or c.args.samples.now k (pos 0)) fits));
    }

pub returns : goal.returns
returns c =
    let f = λ (k : ℕ). word_for (get_or c.args.samples.now k (pos 0)) in
    let all : c.loop-frame.frame ≡ 64 = omega arith in
    c.loop-frame.invariant.made ∙ ap (λ n. put c.args.words.now c.args.at (table f n)) all
