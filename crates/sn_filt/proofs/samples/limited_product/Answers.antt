use Rattle.std.proofs.Common.{◌≡◌, ℤ, ◌*ℤ◌, SFits, w32, w64, to_z, of_z, rules, ap, ◌∙◌}
use Rattle.std.proofs.lemmas.Int.{to_z-of_z}
use Rattle.sn_fixed.specs.Fixed.{floor, mul}
use Rattle.sn_filt.proofs.PlainLoops.{read_times}
use Rattle.sn_filt.proofs.Limits.{limited, limited_is}
use Rattle.sn_filt.proofs.samples.limited_product.Goals as goal

pub returns : goal.returns
unfolding mul
returns c =
    let product : to_z w64 (of_z w64 c.times.result) ≡ c.args.a *ℤ c.args.b = read_times c.args.a c.args.b c.times.result c.ranges.a c.ranges.b c.times.ensures.value in
    let fits : SFits w32 c.scaled_down.result = search rules in
    let wide : SFits w64 c.clamp.result = search rules in
    to_z-of_z w32 c.scaled_down.result fits
    ∙ (c.scaled_down.ensures
    ∙ (ap (λ (z : ℤ). floor z 16777216) (to_z-of_z w64 c.clamp.result wide ∙ (c.clamp.ensures.value ∙ ap limited product))
    ∙ limited_is (c.args.a *ℤ c.args.b)))
