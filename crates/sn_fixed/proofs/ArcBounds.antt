-- Products of the polynomial of an arc, in 64 bits.
use Rattle.std.proofs.Common.{◌≤◌, ℕ, ◌*◌, arith}
use Rattle.std.proofs.lemmas.Nat.{mul-le}

-- the square of an angle up to a quarter turn
pub square_small : (u : ℕ) → u ≤ 2147483648 → u * u ≤ 4611686018427387904
square_small u le = mul-le u u 2147483648 2147483648 le le

-- a product with a part of 1.0 is no more than the whole
pub product_small : (t h : ℕ) → t ≤ 1073741824 → t * h ≤ 1073741824 * h
product_small t h le = mul-le t h 1073741824 h le (omega arith)
