-- Arithmetic on samples in Q8.24, over whole numbers without bounds: 1.0 is 16777216, which is 2^24.
use Rattle.std.specs.Prelude.{ℕ, ◌*◌, ◌/◌, min, ℤ, pos, negsuc, ◌*ℤ◌, unsigned_abs}
use Rattle.std.specs.Int.{int_min, int_max, int_div_euclid, int_rem_euclid}

-- the quotient, rounded towards minus infinity
abbrev pub floor : ℤ → ℕ → ℤ
floor z n = int_div_euclid z (pos n)

-- the nearest sample, from -2^31 to 2^31 - 1
unfoldable pub sat : ℤ → ℤ
sat z = int_max (negsuc 2147483647) (int_min (pos 2147483647) z)

-- the product of two samples
unfoldable pub mul : ℤ → ℤ → ℤ
mul a b = sat (floor (a *ℤ b) 16777216)

-- By how much a phase, of which 2^32 is a turn, grows at each frame: freq is in millihertz, and rate in frames a
-- second.
unfoldable pub step_of : ℤ → ℕ → ℕ
step_of freq rate = unsigned_abs (int_rem_euclid (floor (freq *ℤ pos 4294967296) (1000 * rate)) (pos 4294967296))

-- the frames of so many milliseconds
unfoldable pub frames_of : ℤ → ℕ → ℕ
frames_of (pos ms) rate = min 2147483647 (ms * rate / 1000)
frames_of (negsuc _) rate = 0
