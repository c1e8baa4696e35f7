-- Samples and their products in their words.
use Rattle.std.proofs.Common.{◌≤◌, ◌^◌, ℤ, pos, negsuc, ◌*ℤ◌, arith, FitsSigned, unsigned_abs}
use Rattle.std.specs.Int.{w32, w64}
use Rattle.std.proofs.lemmas.Int.{ints, fits_signed_mul}

pub in_64 : (x : ℤ) → unsigned_abs x ≤ 2 ^ 62 → FitsSigned w64 x
in_64 (pos n) low = record { sfits = omega (arith, ints) }
in_64 (negsuc n) low = record { sfits = omega (arith, ints) }

pub half_word : (x : ℤ) → FitsSigned w32 x → unsigned_abs x ≤ 2147483648
half_word (pos n) f = let h = f.sfits in omega (arith, ints)
half_word (negsuc n) f = let h = f.sfits in omega (arith, ints)

pub product_fits : (x y : ℤ) → FitsSigned w32 x → FitsSigned w32 y → FitsSigned w64 (x *ℤ y)
product_fits x y f g = fits_signed_mul w64 x y 2147483648 2147483648 (half_word x f) (half_word y g) (omega arith)
