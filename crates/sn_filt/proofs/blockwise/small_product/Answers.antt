use Rattle.std.proofs.Common.{ℤ, FitsSigned, SFits, subst, sym, ap, ◌∙◌, rules}
use Rattle.std.specs.Int.{w32}
use Rattle.std.proofs.lemmas.Int.{to_z-of_z}
use Rattle.sn_fixed.specs.Fixed.{floor}
use Rattle.sn_filt.proofs.PlainLoops.{read_times, small_fits, small_is}
use Rattle.sn_filt.proofs.blockwise.small_product.Goals as goal

pub scaled_down-requires : goal.scaled_down-requires
scaled_down-requires c =
    let F : ℤ → Type 0 = λ z. FitsSigned w32 (floor z 16777216) in
    subst F (sym (read_times c.args.a c.args.b c.times.result c.ranges.a c.ranges.b c.times.ensures.value)) (small_fits c.args.a c.args.b c.ranges.a c.requires)

pub returns-clause-scaled : goal.returns-clause-scaled
returns-clause-scaled c =
    let fits : SFits w32 c.scaled_down.result = search rules in
    to_z-of_z w32 c.scaled_down.result fits ∙ (c.scaled_down.ensures ∙ ap (λ (z : ℤ). floor z 16777216) (read_times c.args.a c.args.b c.times.result c.ranges.a c.ranges.b c.times.ensures.value))

pub returns-clause-product : goal.returns-clause-product
returns-clause-product c = returns-clause-scaled c ∙ small_is c.args.a c.args.b c.ranges.a c.requires
