-- Powers of two and logarithms, by polynomials.
use Rattle.std.specs.Prelude.{ℕ, ◌+◌, ◌-◌, ◌^◌, ◌≤◌, ◌<◌, List, [], ◌∷◌, ℤ, pos, negsuc, ◌+ℤ◌, ◌-ℤ◌, ◌*ℤ◌, int_le, unsigned_abs, cond}
use Rattle.std.specs.Int.{w32, leading_zeros}
use Rattle.sn_fixed.specs.Fixed.{floor}
use Rattle.sn_mem.specs.Blocks.{sample}

-- c0 + c1 f + c2 f^2 + .. by Horner's rule, each product rounded down: 2^24 is 1.0
abbrev pub rising : ℤ → List ℤ → ℤ
rising f [] = pos 0
rising f (c ∷ cs) = c +ℤ floor (f *ℤ rising f cs) 16777216

-- 2^f from 1.0 to 2.0, of which 2^38 is 1.0, for f from 0 to 1.0
abbrev pub mantissa : ℤ → ℤ
mantissa f = rising f (pos 274877906944 ∷ pos 190530805471 ∷ pos 66033785798 ∷ pos 15251367701 ∷ pos 2660285941 ∷ pos 341972226 ∷ pos 59689807 ∷ [])

-- 2^(n + f) as a sample, for n from -24 to 6
abbrev pub power : ℤ → ℤ → ℤ
power n f = floor (mantissa f) (2 ^ unsigned_abs (pos 14 -ℤ n))

-- 2^x: the greatest sample from 7.0 on, and 0 below -24.0
abbrev pub power_of : ℤ → ℤ
power_of x =
    let n = floor x 16777216 in
    cond (int_le (pos 7) n) (pos 2147483647) (cond (int_le n (negsuc 24)) (pos 0) (power n (x -ℤ n *ℤ pos 16777216)))

-- c0 - c1 u + c2 u^2 - .. by Horner's rule, each product rounded down: 2^30 is 1.0
abbrev pub alternating : ℤ → List ℤ → ℤ
alternating u [] = pos 0
alternating u (c ∷ cs) = c -ℤ floor (u *ℤ alternating u cs) 1073741824

-- the logarithm of 1.0 + u over u, of which 2^32 is 1.0, for u from 0 to 1.0
abbrev pub slope : ℤ → ℤ
slope u = alternating u (pos 6196323683 ∷ pos 3097977664 ∷ pos 2062659376 ∷ pos 1528342713 ∷ pos 1149166213 ∷ pos 783600322 ∷ pos 418890942 ∷ pos 146096444 ∷ pos 23944225 ∷ [])

-- the place of the highest binary digit of n, below 2^32
abbrev pub highest : ℕ → ℕ
highest n = 31 - leading_zeros w32 n

-- two to that power is at most n, and twice as much is above it
abbrev pub IsHighest : ℕ → Type 0
IsHighest n = (2 ^ highest n ≤ n) × (n < 2 ^ (highest n + 1))

-- the logarithm of the sample whose raw number is 2^e (1.0 + u)
abbrev pub logarithm : ℕ → ℤ → ℤ
logarithm e u = (pos e -ℤ pos 24) *ℤ pos 16777216 +ℤ floor (u *ℤ slope u) 274877906944

-- the logarithm of x above 0, and the least sample for others
abbrev pub logarithm_of : ℤ → ℤ
logarithm_of x =
    let e = highest (unsigned_abs x) in
    cond (int_le x (pos 0)) (negsuc 2147483647) (logarithm e (x *ℤ pos (2 ^ (30 - e)) -ℤ pos 1073741824))

-- Exp2 x, Log2 x
abbrev pub exp2 : List (List ℤ) → ℕ → ℤ
exp2 inputs k = power_of (sample inputs 0 k)

abbrev pub log2 : List (List ℤ) → ℕ → ℤ
log2 inputs k = logarithm_of (sample inputs 0 k)
