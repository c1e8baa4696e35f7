-- Parts of a number, and its highest digit.
use Rattle.std.proofs.Common.{◌≡◌, ◌≤◌, ◌<◌, ℕ, zero, suc, ◌+◌, ◌*◌, ◌-◌, ◌/◌, ◌^◌, arith, subst}
use Rattle.std.specs.Int.{w32, leading_zeros}
use Rattle.std.proofs.lemmas.Nat.{mul-le, div_below, shl_below, pow-add, shr_below, leading_top}
use Rattle.std.proofs.Math.Nat.{div-le_of_le-mul, pow-le-pow_right, lt_of_not-le}
use Rattle.sn_filt.specs.Powers.{highest, IsHighest}

-- ---- parts

pub part_fits : (f h : ℕ) → f < 16777216 → h ≤ 274877906944 → f * h ≤ 4611686018427387904
part_fits f h low le = mul-le f h 16777216 274877906944 (omega arith) le

pub part_below : (f h : ℕ) → f < 16777216 → 0 < h → f * h / 16777216 < h
part_below f zero low some = absurd (omega (arith, some))
part_below f (suc h) low some =
    let le : f * suc h ≤ 16777215 * suc h = mul-le f (suc h) 16777215 (suc h) (omega (arith, low)) (omega arith) in
    div_below (f * suc h) 16777216 (suc h) (omega arith) (omega (arith, le))

pub portion_fits : (u h : ℕ) → u < 1073741824 → h < 8589934592 → u * h ≤ 9223372036854775808
portion_fits u h low lt = mul-le u h 1073741824 8589934592 (omega arith) (omega arith)

pub portion_small : (u h : ℕ) → u < 1073741824 → u * h / 1073741824 ≤ h
portion_small u h low =
    let le : u * h ≤ 1073741824 * h = mul-le u h 1073741824 h (omega (arith, low)) (omega arith) in
    div-le_of_le-mul 1073741824 {m = u * h} {n = h} (omega (arith, le))

pub rise_small : (u h : ℕ) → u < 1073741824 → h < 8589934592 → u * h / 274877906944 ≤ 33554432
rise_small u h low lt = let le : u * h ≤ 9223372036854775808 = portion_fits u h low lt in omega (arith, le)

pub shift_small : (m s : ℕ) → m < 549755813888 → 8 ≤ s → m / 2 ^ s < 2147483648
shift_small m s low le =
    let room : 2 ^ 39 ≤ 2 ^ (31 + s) = pow-le-pow_right {n = 2} (omega arith) {i = 39} {j = 31 + s} (omega (arith, le)) in
    shr_below m 31 s (omega (arith, low, room))

-- ---- the highest digit

pub highest_is : (n : ℕ) → 0 < n → n < 2 ^ 32 → IsHighest n
highest_is n some low =
    let (j, e, le, lt) = leading_top 32 n some low in
    let at : j ≡ highest n = omega (arith, e) in
    let next : suc j ≡ highest n + 1 = omega (arith, e) in
    (subst (λ k. 2 ^ k ≤ n) at le, subst (λ k. n < 2 ^ k) next lt)

-- two to the 31st is above all these powers
place_small : (j n : ℕ) → 2 ^ j ≤ n → n < 2147483648 → j < 31
place_small j n le lt = lt_of_not-le (λ high. let above : 2 ^ 31 ≤ 2 ^ j = pow-le-pow_right {n = 2} (omega arith) {i = 31} {j = j} high in omega (arith, le, lt, above))

pub leading_small : (n : ℕ) → 0 < n → n < 4294967296 → leading_zeros w32 n ≤ 31
leading_small n some low = let (j, e, le, lt) = leading_top 32 n some low in omega (arith, e)

pub highest_small : (n : ℕ) → 0 < n → n < 2147483648 → highest n ≤ 30
highest_small n some low =
    let (le, lt) = highest_is n some (omega (arith, low)) in
    let small : highest n < 31 = place_small (highest n) n le low in
    omega (arith, small)

pub highest_low : (n : ℕ) → 0 < n → n < 4294967296 → 2 ^ highest n ≤ n
highest_low n some low = (highest_is n some low).0

pub highest_high : (n : ℕ) → 0 < n → n < 4294967296 → n < 2 ^ (highest n + 1)
highest_high n some low = (highest_is n some low).1

-- ---- its shift to 2^30

pub shifted_low : (n e : ℕ) → e ≤ 30 → 2 ^ e ≤ n → 1073741824 ≤ n * 2 ^ (30 - e)
shifted_low n e le low =
    let whole : 2 ^ (e + (30 - e)) ≡ 2 ^ e * 2 ^ (30 - e) = pow-add 2 e (30 - e) in
    let all : e + (30 - e) ≡ 30 = omega (arith, le) in
    let is : 1073741824 ≡ 2 ^ e * 2 ^ (30 - e) = subst (λ k. 2 ^ k ≡ 2 ^ e * 2 ^ (30 - e)) all whole in
    let up : 2 ^ e * 2 ^ (30 - e) ≤ n * 2 ^ (30 - e) = mul-le (2 ^ e) (2 ^ (30 - e)) n (2 ^ (30 - e)) low (omega arith) in
    omega (arith, is, up)

pub shifted_high : (n e : ℕ) → e ≤ 30 → n < 2 ^ (e + 1) → n * 2 ^ (30 - e) < 2147483648
shifted_high n e le high =
    let all : e + 1 + (30 - e) ≡ 31 = omega (arith, le) in
    subst (λ k. n * 2 ^ (30 - e) < 2 ^ k) all (shl_below n (e + 1) (30 - e) high)
