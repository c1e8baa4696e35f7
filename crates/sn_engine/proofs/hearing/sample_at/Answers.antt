use Rattle.std.proofs.Common.{◌%◌, ◌∙◌, ap, subst, sym}
use Rattle.std.specs.Prelude.{FitsSigned}
use Rattle.std.specs.Int.{w32}
use Rattle.std.proofs.lemmas.Int.{to_z-of_z}
use borrow.Author.Gap.{read_sfits}
use Rattle.sn_mem.specs.Blocks.{sample_in}
use Rattle.sn_engine.proofs.hearing.sample_at.Goals as goal

pub returns-clause-sample : goal.returns-clause-sample
returns-clause-sample c =
    let fits : FitsSigned w32 c.sample_of.result = subst (FitsSigned w32) (sym c.sample_of.ensures) (read_sfits w32 (c.word.result % 4294967296)) in
    to_z-of_z w32 c.sample_of.result fits ∙ c.sample_of.ensures ∙ ap sample_in c.word.ensures.word
