use Rattle.std.proofs.Common.{◌%◌, ◌∙◌, ap, subst, sym}
use Rattle.std.specs.Prelude.{FitsSigned}
use Rattle.std.specs.Int.{w32}
use Rattle.std.proofs.lemmas.Int.{to_z-of_z}
use borrow.Author.Gap.{read_sfits}
use Rattle.sn_mem.specs.Blocks.{sample_in}
use Rattle.sn_buscmd.proofs.SampleLemmas.{read_sample}
use Rattle.sn_buscmd.proofs.samples.sample_at.Goals as goal

pub returns-clause-value : goal.returns-clause-value
returns-clause-value g c =
    let fits : FitsSigned w32 c.sample_of.result = subst (FitsSigned w32) (sym c.sample_of.ensures) (read_sfits w32 (c.load.result % 4294967296)) in
    to_z-of_z w32 c.sample_of.result fits ∙ c.sample_of.ensures
    ∙ ap sample_in c.load.ensures.word ∙ read_sample (g.P.Port.words c.args.port.now) c.args.words c.args.index c.requires.index
