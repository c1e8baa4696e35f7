use Rattle.std.proofs.Common.{◌≡◌, ◌∙◌, ◌^◌, ap, ℕ, ℤ, pos, ◌-ℤ◌, unsigned_abs, to_z, of_z, SFits, rules}
use Rattle.std.specs.Int.{w32}
use Rattle.std.proofs.lemmas.Int.{to_z-of_z}
use Rattle.sn_fixed.specs.Fixed.{floor}
use Rattle.sn_filt.proofs.powers.power.Goals as goal

pub returns : goal.returns
returns c =
    let exact : to_z w32 (of_z w32 c.args.n) ≡ c.args.n = to_z-of_z w32 c.args.n c.ranges.n in
    let fits : SFits w32 c.shifted.result = search rules in
    to_z-of_z w32 c.shifted.result fits
    ∙ (c.shifted.ensures
    ∙ (ap (λ (s : ℕ). floor (pos c.mantissa.result) (2 ^ s)) (c.places.ensures.value ∙ ap (λ (n : ℤ). unsigned_abs (pos 14 -ℤ n)) exact)
    ∙ ap (λ (z : ℤ). floor z (2 ^ unsigned_abs (pos 14 -ℤ c.args.n))) c.mantissa.ensures.value))
