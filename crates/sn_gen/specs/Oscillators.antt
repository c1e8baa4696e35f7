-- Oscillators. The state is the phase p; the output uses q, which is p moved by the input `phase`, before p grows.
use Rattle.std.specs.Prelude.{ℕ, ◌/◌, nat_lt, List, ℤ, pos, ◌-ℤ◌, int_lt, cond}
use Rattle.std.specs.Int.{w32, cast_signed}
use Rattle.sn_fixed.specs.Fixed.{floor}
use Rattle.sn_fixed.specs.Sine.{sine}
use Rattle.sn_mem.specs.Blocks.{sample}
use Rattle.sn_gen.specs.Phases.{moved, grown}

-- SinOsc freq phase
abbrev pub sin_osc : ℕ → ℕ → List (List ℤ) → ℕ → ℕ × ℤ
sin_osc rate p inputs k =
    let q = moved p (sample inputs 1 k) in
    (grown rate p (sample inputs 0 k), sine q)

-- from -1.0 to 1.0, by the signed value of the phase
abbrev pub saw : ℕ → ℤ
saw q = floor (cast_signed w32 q) 128

-- LFSaw freq phase
abbrev pub lf_saw : ℕ → ℕ → List (List ℤ) → ℕ → ℕ × ℤ
lf_saw rate p inputs k =
    let q = moved p (sample inputs 1 k) in
    (grown rate p (sample inputs 0 k), saw q)

-- 1.0 in the first part of the turn, of which 2^24 is the whole
abbrev pub pulse : ℕ → ℤ → ℤ
pulse q width = cond (int_lt (pos (q / 256)) width) (pos 16777216) (pos 0)

-- LFPulse freq phase width
abbrev pub lf_pulse : ℕ → ℕ → List (List ℤ) → ℕ → ℕ × ℤ
lf_pulse rate p inputs k =
    let q = moved p (sample inputs 1 k) in
    (grown rate p (sample inputs 0 k), pulse q (sample inputs 2 k))

-- up in the first quarter, down in the second and third, up in the last
abbrev pub triangle : ℕ → ℤ
triangle q =
    cond (nat_lt q 1073741824) (floor (pos q) 64)
    (cond (nat_lt q 3221225472) (floor (pos 2147483648 -ℤ pos q) 64)
    (floor (pos q -ℤ pos 4294967296) 64))

-- LFTri freq phase
abbrev pub lf_tri : ℕ → ℕ → List (List ℤ) → ℕ → ℕ × ℤ
lf_tri rate p inputs k =
    let q = moved p (sample inputs 1 k) in
    (grown rate p (sample inputs 0 k), triangle q)
