-- Blip: the sum of the cosines of the first harmonics, over their number.
use Rattle.std.specs.Prelude.{ℕ, ◌+◌, ◌-◌, ◌*◌, ◌/◌, ◌==◌, min, max, List, ℤ, pos, ◌-ℤ◌, ◌*ℤ◌, unsigned_abs, cond}
use Rattle.std.specs.Int.{int_min, int_max}
use Rattle.sn_fixed.specs.Fixed.{floor, sat, step_of}
use Rattle.sn_fixed.specs.Arcs.{arc, wave}
use Rattle.sn_mem.specs.Blocks.{sample}
use Rattle.sn_gen.specs.Phases.{moved, grown}
use Rattle.sn_gen.specs.Rounded.{pace}

-- how many harmonics a wave that goes m in a frame has: as many as are asked for, at least 1, and none above half of
-- the rate
abbrev pub harmonics_at : ℕ → ℤ → ℕ
harmonics_at m asked = unsigned_abs (int_max (pos 1) (int_min asked (pos (2147483648 / max 1 m))))

-- how far a phase is from a whole number of turns, whichever way
abbrev pub from_turn : ℕ → ℕ
from_turn q = min q (4294967296 - q)

-- sin ((2 n + 1) x / 2) / sin (x / 2) at the phase x, which is 1 and twice the sum of the cosines of n harmonics
abbrev pub kernel : ℕ → ℕ → ℤ
kernel n q = floor (wave ((2 * n + 1) * q) *ℤ pos 16777216) (arc (from_turn q))

-- the mean of the cosines of n harmonics
unfoldable pub harmonic_mean : ℕ → ℕ → ℤ
harmonic_mean n q =
    cond (arc (from_turn q) == 0)
    (pos 16777216)
    (sat (floor (kernel n q -ℤ pos 16777216) (2 * n)))

-- Blip freq harmonics phase
abbrev pub blip : ℕ → ℕ → List (List ℤ) → ℕ → ℕ × ℤ
blip rate p inputs k =
    let freq = sample inputs 0 k in
    let n = harmonics_at (pace (step_of freq rate)) (sample inputs 1 k) in
    (grown rate p freq, harmonic_mean n (moved p (sample inputs 2 k)))
