-- Bounds of the weights and the sums of SVF.
use Rattle.std.proofs.Common.{◌≤◌, ◌<◌, ℕ, ◌+◌, ◌*◌, ◌/◌, ◌^◌, arith, ℤ, pos, negsuc, ◌+ℤ◌, ◌-ℤ◌, ◌*ℤ◌, unsigned_abs}
use Rattle.std.proofs.Math.Nat.{div-le_of_le-mul}
use Rattle.std.proofs.lemmas.Nat.{mul-le}
use Rattle.std.proofs.lemmas.Int.{ints, unsigned_abs-mul}
use Rattle.sn_fixed.specs.Fixed.{floor}

pub square_small : (a b : ℕ) → a ≤ 2147483648 → b ≤ 2147483648 → a * b ≤ 4611686018427387904
square_small a b p q = mul-le a b 2147483648 2147483648 p q

pub damping_small : (k part : ℕ) → k < 4294967296 → part ≤ 2147483648 → k * part ≤ 9223372036854775808
damping_small k part p q = mul-le k part 4294967296 2147483648 (omega arith) q

pub reciprocal_small : (d : ℕ) → 1073741825 ≤ d → 2305843009213693952 / d ≤ 2147483648
reciprocal_small d le = div-le_of_le-mul d (mul-le 1073741824 2147483648 d 2147483648 (omega arith) (omega arith))

pub triple_small : (p r : ℕ) → p ≤ 4611686018427387904 → r ≤ 2147483648 → p * r ≤ 9903520314283042199192993792
triple_small p r a b = mul-le p r 4611686018427387904 2147483648 a b

pub share_small : (a : ℕ) (z : ℤ) → a ≤ 1099511627776 → unsigned_abs z ≤ 18446744073709551616 → unsigned_abs (pos a *ℤ z) ≤ 20282409603651670423947251286016
share_small a z p q = rw (unsigned_abs-mul (pos a) z) (mul-le a (unsigned_abs z) 1099511627776 18446744073709551616 p q)

sum_small : (p q : ℤ) → unsigned_abs p ≤ 20282409603651670423947251286016 → unsigned_abs q ≤ 20282409603651670423947251286016 → unsigned_abs (p +ℤ q) ≤ 40564819207303340847894502572032
sum_small (pos m) (pos n) a b = omega (arith, ints, a, b)
sum_small (pos m) (negsuc n) a b = omega (arith, ints, a, b)
sum_small (negsuc m) (pos n) a b = omega (arith, ints, a, b)
sum_small (negsuc m) (negsuc n) a b = omega (arith, ints, a, b)

weight_scaled : (z : ℤ) → unsigned_abs z ≤ 40564819207303340847894502572032 → unsigned_abs (floor z 1099511627776) ≤ 36893488147419103232
weight_scaled (pos n) le = omega (arith, ints, le)
weight_scaled (negsuc n) le = omega (arith, ints, le)

pub weighed_small : (p q : ℤ) → unsigned_abs p ≤ 20282409603651670423947251286016 → unsigned_abs q ≤ 20282409603651670423947251286016 → unsigned_abs (floor (p +ℤ q) 1099511627776) ≤ 36893488147419103232
weighed_small p q a b = weight_scaled (p +ℤ q) (sum_small p q a b)

pub damped_small : (k : ℕ) (z : ℤ) → k < 4294967296 → unsigned_abs z ≤ 36893488147419103232 → unsigned_abs (pos k *ℤ z) ≤ 158456325028528675187087900672
damped_small k z p q = rw (unsigned_abs-mul (pos k) z) (mul-le k (unsigned_abs z) 4294967296 36893488147419103232 (omega arith) q)

band_scaled : (z : ℤ) → unsigned_abs z ≤ 158456325028528675187087900672 → unsigned_abs (floor z 16777216) ≤ 9444732965739290427392
band_scaled (pos n) le = omega (arith, ints, le)
band_scaled (negsuc n) le = omega (arith, ints, le)

pub damped_scaled : (k : ℕ) (z : ℤ) → k < 4294967296 → unsigned_abs z ≤ 36893488147419103232 → unsigned_abs (floor (pos k *ℤ z) 16777216) ≤ 9444732965739290427392
damped_scaled k z p q = band_scaled (pos k *ℤ z) (damped_small k z p q)
