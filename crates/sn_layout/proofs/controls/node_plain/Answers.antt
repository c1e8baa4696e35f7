use Rattle.std.proofs.Common.{◌∙◌, ◌∷◌, ℤ, ap, sym, map, w32, to_z, of_z, rules}
use Rattle.std.specs.Prelude.{FitsSigned}
use Rattle.std.proofs.lemmas.Bool.{not-true}
use Rattle.std.proofs.lemmas.Int.{to_z-of_z}
use Rattle.sn_osc.specs.declared.packet.Arg.{Arg}
use Rattle.sn_osc.specs.Shape.{argument_of, int}
use Rattle.sn_nodecmd.specs.Runs.{reader}
use Rattle.sn_layout.specs.Leaving.{holds_laid, sets_plain}
use Rattle.sn_layout.proofs.Runs.{node_plain}
use Rattle.sn_layout.proofs.controls.node_plain.Goals as goal

pub returns-in-Int : goal.returns-in-Int
returns-in-Int c = λ is.
    let all = c.args.tree.now.attached in
    let read = reader c.args.form in
    let xs = map argument_of c.args.runs.now in
    let fits : FitsSigned w32 c.in-Int.id = search rules in
    let same = to_z-of_z w32 c.in-Int.id fits in
    ap (λ (x : Arg). sets_plain holds_laid all (argument_of x ∷ xs) read) c.in-Int.is
    ∙ ap (λ (n : ℤ). sets_plain holds_laid all (int n ∷ xs) read) (sym same)
    ∙ node_plain all (to_z w32 (of_z w32 c.in-Int.id)) read xs (c.runs_laid.ensures (not-true c.runs_laid.result is))
