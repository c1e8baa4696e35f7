use Rattle.std.proofs.Common.{◌-◌, ◌∙◌, ℕ, ap, sym, arith}
use Rattle.sn_def.specs.Defs.{definition_of}
use Rattle.sn_layout.specs.Leaving.{any_laid}
use Rattle.sn_layout.proofs.Runs.{next_laid, none_laid}
use Rattle.sn_layout.proofs.controls.any_laid.Goals as goal

pub loop-left-preserved : goal.loop-left-preserved
loop-left-preserved c =
    let d = definition_of c.args.def.now in
    let cs = c.args.controls.now in
    ap (λ (k : ℕ). any_laid d cs k (c.loop-left.left - 1)) c.in-Some.ensures.1
    ∙ sym (next_laid d cs c.loop-left.number c.loop-left.left c.loop-left-test.true (sym c.is_laid.ensures ∙ c.if-is_laid.false))
    ∙ c.loop-left.invariant

pub returns : goal.returns
returns c = λ _. sym c.loop-left.invariant ∙ none_laid (definition_of c.args.def.now) c.args.controls.now c.loop-left.number c.loop-left.left (omega (arith, c.loop-left-test.false))
