-- Filters with one sample or two of memory.
use Rattle.std.specs.Prelude.{ℕ, ◌==◌, max, true, not, List, [], ◌∷◌, slice_index, ℤ, pos, ◌+ℤ◌, ◌-ℤ◌, ◌*ℤ◌, unsigned_abs, cond}
use Rattle.sn_fixed.specs.Fixed.{floor, sat, frames_of}
use Rattle.sn_mem.specs.Blocks.{sample, sample_in, word_for}
use Rattle.sn_filt.specs.Arithmetic.{clipped}
use Rattle.sn_filt.specs.declared.poles.Lagged.{Lagged}

-- a state of one sample
abbrev pub sample_of_words : List ℕ → ℤ
sample_of_words ws = sample_in (slice_index ws 0)

abbrev pub sample_words : ℤ → List ℕ
sample_words x = word_for x ∷ []

-- x in the measure that c leaves, and the last output in the measure c
abbrev pub pole : ℤ → ℤ → ℤ → ℤ
pole last x c = sat (floor ((pos 16777216 -ℤ pos (unsigned_abs c)) *ℤ x +ℤ c *ℤ last) 16777216)

-- OnePole x c: the state is the last output
abbrev pub one_pole : ℤ → List (List ℤ) → ℕ → ℤ × ℤ
one_pole last inputs k = let y = pole last (sample inputs 0 k) (clipped (sample inputs 1 k)) in (y, y)

-- Integrator x c: the state is the last output
abbrev pub integrator : ℤ → List (List ℤ) → ℕ → ℤ × ℤ
integrator last inputs k = let y = sat (floor (sample inputs 1 k *ℤ last) 16777216 +ℤ sample inputs 0 k) in (y, y)

-- Delay1 x: the state is the last input
abbrev pub delay1 : ℤ → List (List ℤ) → ℕ → ℤ × ℤ
delay1 last inputs k = (sample inputs 0 k, last)

-- whether it has begun, and the last output
abbrev pub lagged_in : List ℕ → Lagged
lagged_in ws = record { begun = not (slice_index ws 0 == 0); last = sample_in (slice_index ws 1) }

abbrev pub lagged_words : Lagged → List ℕ
lagged_words s = cond s.begun 1 0 ∷ word_for s.last ∷ []

-- the n-th part of the way from the last output to x
abbrev pub nearer : ℕ → ℤ → ℤ → ℤ
nearer n last x = last +ℤ floor (x -ℤ last) n

abbrev pub lag_sample : ℕ → Lagged → ℤ → ℤ → ℤ
lag_sample rate s x time = cond s.begun (nearer (max 1 (frames_of time rate)) s.last x) x

-- Lag x time: at the first frame the input
abbrev pub lag : ℕ → Lagged → List (List ℤ) → ℕ → Lagged × ℤ
lag rate s inputs k = let y = lag_sample rate s (sample inputs 0 k) (sample inputs 1 k) in (record { begun = true; last = y }, y)
