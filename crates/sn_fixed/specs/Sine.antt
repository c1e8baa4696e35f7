-- The sine of a phase, of which 2^32 is a turn, by Bhaskara's approximation: 16 q / (5 - 4 q) at q = h (1 - h), where h
-- is the place in the half turn.
use Rattle.std.specs.Prelude.{ℕ, ◌-◌, ◌*◌, ◌/◌, ◌%◌, nat_lt, ℤ, pos, neg_ℤ, cond}

-- the place of a phase in its half turn, of which 65536 is the whole
abbrev pub place : ℕ → ℕ
place p = p % 2147483648 / 32768

-- the height of the half wave at a place: 2^24 is 1.0, and 2^32 the square of the half turn
abbrev pub height : ℕ → ℕ
height h = let q = h * (65536 - h) in 16 * q * 16777216 / (5 * 4294967296 - 4 * q)

unfoldable pub sine : ℕ → ℤ
sine p = cond (nat_lt p 2147483648) (pos (height (place p))) (neg_ℤ (pos (height (place p))))
