-- Sine: an oscillator with the wave of the sine polynomial. As in any oscillator the state is the phase p, and the output
-- uses q, which is p moved by the input `phase`, before p grows.
use Rattle.std.specs.Prelude.{ℕ, ◌*◌, List, ℤ, pos, neg_ℤ, int_lt, cond}
use Rattle.sn_fixed.specs.Fixed.{floor}
use Rattle.sn_fixed.specs.Arcs.{wave}
use Rattle.sn_mem.specs.Blocks.{sample}
use Rattle.sn_gen.specs.Phases.{moved, grown}

-- the sample of a wave, of which 2^62 is 1.0, rounded towards 0
abbrev pub toward_zero : ℤ → ℤ
toward_zero w = cond (int_lt w (pos 0)) (neg_ℤ (floor (neg_ℤ w) 274877906944)) (floor w 274877906944)

-- Sine freq phase
abbrev pub sine : ℕ → ℕ → List (List ℤ) → ℕ → ℕ × ℤ
sine rate p inputs k =
    let q = moved p (sample inputs 1 k) in
    (grown rate p (sample inputs 0 k), toward_zero (wave (2 * q)))
