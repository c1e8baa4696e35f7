use Rattle.std.proofs.Common.{◌≡◌, ◌∙◌, ap, arith, ℕ, ℤ, pos, ◌-ℤ◌, ◌*ℤ◌}
use Rattle.std.proofs.lemmas.Int.{ints}
use Rattle.sn_fixed.specs.Fixed.{floor}
use Rattle.sn_filt.proofs.powers.slope.Goals as goal

pub returns-clause-value : goal.returns-clause-value
returns-clause-value c =
    let step : ℕ → ℤ → ℤ = λ k h. pos k -ℤ floor (pos c.args.u *ℤ h) 1073741824 in
    let last : pos 23944225 ≡ step 23944225 (pos 0) = omega (arith, ints) in
    c.less.ensures.value
    ∙ ap (step 6196323683) (c.less-h-7.ensures.value
    ∙ ap (step 3097977664) (c.less-h-6.ensures.value
    ∙ ap (step 2062659376) (c.less-h-5.ensures.value
    ∙ ap (step 1528342713) (c.less-h-4.ensures.value
    ∙ ap (step 1149166213) (c.less-h-3.ensures.value
    ∙ ap (step 783600322) (c.less-h-2.ensures.value
    ∙ ap (step 418890942) (c.less-h.ensures.value
    ∙ ap (step 146096444) last)))))))
