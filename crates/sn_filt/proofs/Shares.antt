-- Products of a weight of at most 1.0 and a sample.
use Rattle.std.proofs.Common.{◌≤◌, ℤ, ◌*ℤ◌, unsigned_abs, FitsSigned}
use Rattle.std.specs.Int.{w32}
use Rattle.std.proofs.lemmas.Int.{unsigned_abs-mul}
use Rattle.std.proofs.lemmas.Nat.{mul-le}
use Rattle.sn_filt.proofs.Widths.{half_word}

pub share_small : (a x : ℤ) → unsigned_abs a ≤ 16777216 → FitsSigned w32 x → unsigned_abs (a *ℤ x) ≤ 36028797018963968
share_small a x le fits = rw (unsigned_abs-mul a x) (mul-le (unsigned_abs a) (unsigned_abs x) 16777216 2147483648 le (half_word x fits))
