use Rattle.std.proofs.Common.{◌≡◌, ◌++◌, ◌∷◌, [], ℤ, List, SFits, w32, to_z, of_z, rules, ap, sym, ◌∙◌}
use Rattle.std.proofs.lemmas.Int.{to_z-of_z}
use Rattle.sn_filt.specs.Powers.{logarithm_of}
use Rattle.sn_filt.proofs.SteadyFrames.{equal_logarithms}
use Rattle.sn_filt.proofs.powers.push_logarithms.Goals as goal

pub returns-in-Some : goal.returns-in-Some
returns-in-Some c =
    let x_fits : SFits w32 c.in-Some.x = search rules in
    let fits : SFits w32 c.logarithm_of.result = search rules in
    let y : ℤ = to_z w32 (of_z w32 c.logarithm_of.result) in
    let is : y ≡ logarithm_of c.in-Some.x = to_z-of_z w32 c.logarithm_of.result fits ∙ (c.logarithm_of.ensures ∙ ap logarithm_of (to_z-of_z w32 c.in-Some.x x_fits)) in
    c.push_equal.ensures ∙ ap (λ (xs : List ℤ). c.args.outputs.now ++ xs ∷ []) (sym (equal_logarithms c.args.inputs.now c.in-Some.x y c.in-Some.ensures is))
