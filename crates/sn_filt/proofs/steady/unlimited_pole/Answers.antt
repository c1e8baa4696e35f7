use Rattle.std.proofs.Common.{ℤ, FitsSigned, SFits, subst, sym, ap, ◌∙◌, rules}
use Rattle.std.specs.Int.{w32}
use Rattle.std.proofs.lemmas.Int.{to_z-of_z}
use Rattle.sn_fixed.specs.Fixed.{floor}
use Rattle.sn_filt.proofs.Unlimited.{pole_fits, pole_is, read_shares}
use Rattle.sn_filt.proofs.steady.unlimited_pole.Goals as goal

pub scaled_down-requires : goal.scaled_down-requires
scaled_down-requires c =
    let F : ℤ → Type 0 = λ z. FitsSigned w32 (floor z 16777216) in
    subst F (sym (read_shares c.args.rest c.args.c c.args.x c.args.last c.share.result c.share-2.result c.ranges.rest c.ranges.c c.ranges.x c.ranges.last c.share.ensures.value c.share-2.ensures.value c.share.ensures.bound c.share-2.ensures.bound))
    (pole_fits c.args.rest c.args.c c.args.x c.args.last c.requires.rest c.requires.low c.requires.high c.ranges.x c.ranges.last)

pub returns : goal.returns
returns c =
    let fits : SFits w32 c.scaled_down.result = search rules in
    to_z-of_z w32 c.scaled_down.result fits
    ∙ (c.scaled_down.ensures
    ∙ (ap (λ (z : ℤ). floor z 16777216) (read_shares c.args.rest c.args.c c.args.x c.args.last c.share.result c.share-2.result c.ranges.rest c.ranges.c c.ranges.x c.ranges.last c.share.ensures.value c.share-2.ensures.value c.share.ensures.bound c.share-2.ensures.bound)
    ∙ pole_is c.args.last c.args.x c.args.rest c.args.c c.requires.rest c.requires.low c.requires.high c.ranges.x c.ranges.last))
