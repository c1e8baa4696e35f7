use Rattle.std.proofs.Common.{◌≡◌, ◌∷◌, [], ◌++◌, ℤ, List, SFits, w32, to_z, of_z, rules, ap, ◌∙◌, sym}
use Rattle.std.proofs.lemmas.Int.{to_z-of_z}
use Rattle.sn_mem.specs.Blocks.{scan}
use Rattle.sn_filt.specs.Arithmetic.{clipped}
use Rattle.sn_filt.specs.Poles.{one_pole}
use Rattle.sn_filt.proofs.steady.with_weight.Goals as goal

pub returns-else-c-clause-last : goal.returns-else-c-clause-last
returns-else-c-clause-last c =
    let weight : ℤ = c.in-Some.weight in
    let fits : SFits w32 c.clipped-c.result = search rules in
    let weight_fits : SFits w32 c.in-Some.weight = search rules in
    let last_fits : SFits w32 c.run_poles-last.result = search rules in
    let is : to_z w32 (of_z w32 c.clipped-c.result) ≡ clipped weight = to_z-of_z w32 c.clipped-c.result fits ∙ (c.clipped-c.ensures ∙ ap clipped (to_z-of_z w32 weight weight_fits)) in
    to_z-of_z w32 c.run_poles-last.result last_fits
    ∙ (c.run_poles-last.ensures.last weight c.args.inputs.now is (sym c.block.ensures) c.in-Some.ensures
    ∙ ap (λ (b : ℤ). (scan one_pole b c.args.inputs.now 64).0) (to_z-of_z w32 c.args.begin c.ranges.begin))

pub returns-else-c-clause-outputs : goal.returns-else-c-clause-outputs
returns-else-c-clause-outputs c =
    let weight : ℤ = c.in-Some.weight in
    let fits : SFits w32 c.clipped-c.result = search rules in
    let weight_fits : SFits w32 c.in-Some.weight = search rules in
    let is : to_z w32 (of_z w32 c.clipped-c.result) ≡ clipped weight = to_z-of_z w32 c.clipped-c.result fits ∙ (c.clipped-c.ensures ∙ ap clipped (to_z-of_z w32 weight weight_fits)) in
    c.push.ensures
    ∙ (ap (λ (bs : List (List ℤ)). bs ++ c.run_poles-last.new.samples ∷ []) c.clear.ensures
    ∙ ap (λ (ys : List ℤ). ys ∷ []) (c.run_poles-last.ensures.samples weight c.args.inputs.now is (sym c.block.ensures) c.in-Some.ensures
    ∙ ap (λ (b : ℤ). (scan one_pole b c.args.inputs.now 64).1) (to_z-of_z w32 c.args.begin c.ranges.begin)))
