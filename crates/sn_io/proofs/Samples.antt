-- Sums of samples, as words hold them.
use Rattle.std.proofs.Common.{◌≡◌, ℤ, pos, negsuc, ◌+ℤ◌, ◌≤ℤ◌, SFits, w32, ap, sym, ◌∙◌, arith}
use Rattle.std.proofs.lemmas.Int.{ints, clamps}
use Rattle.sn_fixed.specs.Fixed.{sat}

between : (y : ℤ) → y ≤ℤ pos 2147483647 → negsuc 2147483647 ≤ℤ y → SFits w32 y
between (pos n) high low = record { sfits = omega (arith, ints) }
between (negsuc n) high low = record { sfits = omega (arith, ints) }

pub sat_fits : (z : ℤ) → SFits w32 (sat z)
unfolding sat
sat_fits z = between (sat z) (omega (arith, ints, clamps)) (omega (arith, ints, clamps))

pub sat_same : (z : ℤ) → SFits w32 z → sat z ≡ z
unfolding sat
sat_same (pos n) fits = let h = fits.sfits in omega (arith, ints, clamps)
sat_same (negsuc n) fits = let h = fits.sfits in omega (arith, ints, clamps)

pub alone : (z : ℤ) → sat (pos 0 +ℤ z) ≡ sat z
alone z = let e : pos 0 +ℤ z ≡ z = omega (arith, ints) in ap sat e

-- what is saturated stays as it is if it is saturated once more
pub once_more : (z : ℤ) → sat (pos 0 +ℤ z) ≡ sat (pos 0 +ℤ sat z)
once_more z = alone z ∙ sym (sat_same (sat z) (sat_fits z)) ∙ sym (alone (sat z))
