use Rattle.std.proofs.Common.{◌≡◌, ◌+◌, ◌*◌, ◌%◌, ◌∙◌, ap, subst, sym, rules, true, false}
use Rattle.std.specs.Prelude.{FitsSigned, slice_index}
use Rattle.std.specs.Int.{w32}
use Rattle.std.proofs.lemmas.Int.{to_z-of_z}
use borrow.Author.Gap.{read_sfits}
use Rattle.sn_mem.specs.Blocks.{sample_in}
use Rattle.sn_engine.proofs.HearingLemmas.{heard_written, heard_unwritten}
use Rattle.sn_engine.proofs.hearing.heard.Goals as goal

pub returns-then-not-written-clause-sample : goal.returns-then-not-written-clause-sample
returns-then-not-written-clause-sample c = λ b is.
    let off : c.args.written ≡ false = search rules in
    sym (heard_unwritten c.args.memory.now.words c.args.bus b c.args.frame c.args.written off is)

pub returns-clause-sample : goal.returns-clause-sample
returns-clause-sample c = λ b is.
    let words = c.args.memory.now.words in
    let fits : FitsSigned w32 c.sample_of.result = subst (FitsSigned w32) (sym c.sample_of.ensures) (read_sfits w32 (c.word.result % 4294967296)) in
    let on : c.args.written ≡ true = search rules in
    let word : c.word.result ≡ slice_index words (65 * c.args.bus + 1 + c.args.frame) = search rules in
    to_z-of_z w32 c.sample_of.result fits ∙ c.sample_of.ensures ∙ ap sample_in word ∙ sym (heard_written words c.args.bus b c.args.frame c.args.written c.requires.frame on is)
