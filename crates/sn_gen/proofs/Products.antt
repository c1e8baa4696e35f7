-- Bounds of products and quotients.
use Rattle.std.proofs.Common.{◌≤◌, ◌<◌, ℕ, ◌+◌, ◌*◌, ◌/◌, arith, ℤ, pos, negsuc, unsigned_abs}
use Rattle.std.proofs.Math.Nat.{div-le_self}
use Rattle.std.proofs.lemmas.Int.{ints}
use Rattle.std.proofs.lemmas.Nat.{mul-le, div_below}
use Rattle.sn_fixed.specs.Fixed.{floor}

pub product_small : (a b : ℕ) → a ≤ 16777216 → b ≤ 16777216 → a * b ≤ 281474976710656
product_small a b la lb = mul-le a b 16777216 16777216 la lb

pub frames_small : (z m : ℕ) → z < 2 * m → z * 16777216 / m < 33554432
frames_small z m lt = div_below (z * 16777216) m 33554432 (omega (arith, lt)) (omega (arith, lt))

pub angle_small : (n q : ℕ) → n ≤ 2147483647 → q < 4294967296 → (2 * n + 1) * q ≤ 18446744069414584320
angle_small n q a b = mul-le (2 * n + 1) q 4294967295 4294967296 (omega (arith, a)) (omega (arith, b))

pub floor_small : (z : ℤ) (d m : ℕ) → 0 < d → unsigned_abs z ≤ m → unsigned_abs (floor z d) ≤ m
floor_small (pos n) d m p le = omega (arith, div-le_self n d, le)
floor_small (negsuc n) d m p le = omega (arith, ints, div-le_self n d, le)
