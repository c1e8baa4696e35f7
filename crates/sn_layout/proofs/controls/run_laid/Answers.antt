use Rattle.std.proofs.Common.{◌∙◌, ℕ, Option, ap, sym, length}
use Rattle.sn_def.specs.Defs.{definition_of}
use Rattle.sn_nodecmd.specs.Runs.{values_of}
use Rattle.sn_layout.specs.Leaving.{any_laid, any_laid_at}
use Rattle.sn_layout.proofs.controls.run_laid.Goals as goal

pub returns-in-Some : goal.returns-in-Some
returns-in-Some c = λ is.
    let d = definition_of c.args.def.now in
    let cs = c.args.controls.now in
    ap (λ (o : Option ℕ). any_laid_at d cs o (length (values_of c.args.run.now.values))) (sym c.in-Some.ensures)
    ∙ ap (any_laid d cs c.in-Some.number) (sym c.value_count.ensures)
    ∙ c.any_laid.ensures is
