-- Saw: a saw whose step is rounded over four frames, so that little of it aliases.
use Rattle.std.specs.Prelude.{ℕ, ◌+◌, ◌-◌, ◌*◌, ◌/◌, ◌%◌, nat_lt, min, List, ℤ, pos, ◌+ℤ◌, ◌-ℤ◌, ◌*ℤ◌, cond}
use Rattle.sn_fixed.specs.Fixed.{floor, sat, step_of}
use Rattle.sn_mem.specs.Blocks.{sample}
use Rattle.sn_gen.specs.Phases.{moved, grown}
use Rattle.sn_gen.specs.Oscillators.{saw}

-- the product of two numbers of which 2^24 is 1.0
abbrev pub scaled : ℕ → ℕ → ℕ
scaled a b = a * b / 16777216

-- How far a rounded step is from its end, t frames after its middle. Up to one frame it is
-- (12 - 16 t + 8 t^3 - 3 t^4) / 24, and from one frame to two it is (2 - t)^4 / 24.
abbrev pub near_step : ℕ → ℤ
near_step t =
    let a = scaled t t in
    floor (pos (201326592 + 8 * scaled t a) -ℤ pos (16 * t + 3 * scaled a a)) 24

abbrev pub far_step : ℕ → ℤ
far_step t = let a = scaled (33554432 - t) (33554432 - t) in pos (a * a / 402653184)

-- the same where z is how far the phase is after the middle, and m how far it goes in a frame
unfoldable pub rounded : ℕ → ℕ → ℤ
rounded z m =
    let t = z * 16777216 / m in
    cond (nat_lt z (2 * m)) (cond (nat_lt t 16777216) (near_step t) (far_step t)) (pos 0)

-- how far a phase goes in a frame, whichever way
abbrev pub pace : ℕ → ℕ
pace g = min g (4294967296 - g)

-- how far it is after half a turn, where the saw steps down
abbrev pub after_half : ℕ → ℕ
after_half q = (q + 2147483648) % 4294967296

-- a saw at a phase that goes m in a frame
abbrev pub rounded_saw : ℕ → ℕ → ℤ
rounded_saw m q =
    let d = after_half q in
    sat (saw q +ℤ pos 2 *ℤ (rounded d m -ℤ rounded (4294967296 - d) m))

-- Saw freq phase
abbrev pub saw_unit : ℕ → ℕ → List (List ℤ) → ℕ → ℕ × ℤ
saw_unit rate p inputs k =
    let freq = sample inputs 0 k in
    (grown rate p freq, rounded_saw (pace (step_of freq rate)) (moved p (sample inputs 1 k)))
