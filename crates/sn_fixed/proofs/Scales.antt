-- Products in the scale of samples.
use Rattle.std.proofs.Common.{◌≤◌, ℤ, pos, negsuc, unsigned_abs, arith}
use Rattle.std.proofs.lemmas.Int.{ints}
use Rattle.sn_fixed.specs.Fixed.{floor}

pub scaled_small : (z : ℤ) → unsigned_abs z ≤ 4611686018427387904 → unsigned_abs (floor z 16777216) ≤ 274877906944
scaled_small (pos n) le = omega (arith, ints, le)
scaled_small (negsuc n) le = omega (arith, ints, le)
