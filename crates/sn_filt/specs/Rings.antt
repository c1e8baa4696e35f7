-- Delay lines: rings of samples in words.
use Rattle.std.specs.Prelude.{ℕ, ◌+◌, ◌-◌, ◌%◌, ◌==◌, nat_lt, max, min, List, length, slice_index, slice_set, ℤ, ◌+ℤ◌, ◌*ℤ◌, cond}
use Rattle.sn_ports.specs.Limits.{block_frames}
use Rattle.sn_fixed.specs.Fixed.{floor, sat, frames_of}
use Rattle.sn_mem.specs.Blocks.{sample, sample_in, word_for, scan}

-- ---- rings

-- the place n before a place, of so many in a ring
abbrev pub before : ℕ → ℕ → ℕ → ℕ
before places place n = cond (nat_lt place n) (place + places - n) (place - n)

abbrev pub after : ℕ → ℕ → ℕ
after places place = cond (nat_lt (place + 1) places) (place + 1) 0

-- One frame, from the next place of the ring and the words. In the words after the first stand the samples of the ring.
-- What was kept `reach` frames ago gives what is kept now, and the output.
unfoldable pub ring_step : (List (List ℤ) → ℕ → ℕ) → (ℤ → List (List ℤ) → ℕ → ℤ × ℤ) → ℕ → ℕ × List ℕ → List (List ℤ) → ℕ → (ℕ × List ℕ) × ℤ
ring_step reach step places s inputs k =
    let r = step (sample_in (slice_index s.1 (1 + before places s.0 (reach inputs k)))) inputs k in
    ((after places s.0, slice_set s.1 (1 + s.0) (word_for r.0)), r.1)

-- a block: the words after it, and the output; the first word holds the next place
abbrev pub ringed : (List (List ℤ) → ℕ → ℕ) → (ℤ → List (List ℤ) → ℕ → ℤ × ℤ) → List ℕ → List (List ℤ) → List ℕ × List ℤ
ringed reach step state inputs =
    let places = length state - 1 in
    let r = scan (ring_step reach step places) (slice_index state 0 % places, state) inputs block_frames in
    (slice_set r.0.1 0 r.0.0, r.1)

-- ---- units

-- the frames of the longest delay, by the constant input
abbrev pub most_frames : ℕ → List (List ℤ) → ℕ
most_frames rate inputs = frames_of (sample inputs 1 0) rate

-- DelayN x max! time: the input is kept
abbrev pub delay_reach : ℕ → ℕ → List (List ℤ) → ℕ → ℕ
delay_reach rate most inputs k = min (frames_of (sample inputs 2 k) rate) most

abbrev pub delay_step : ℕ → ℕ → ℤ → List (List ℤ) → ℕ → ℤ × ℤ
delay_step rate most old inputs k = (sample inputs 0 k, cond (delay_reach rate most inputs k == 0) (sample inputs 0 k) old)

abbrev pub delay_n : ℕ → List ℕ → List (List ℤ) → List ℕ × List ℤ
delay_n rate state inputs = let most = most_frames rate inputs in ringed (delay_reach rate most) (delay_step rate most) state inputs

-- CombN x max! time c: the sum of the input and of what is fed back is kept
abbrev pub comb_reach : ℕ → ℕ → List (List ℤ) → ℕ → ℕ
comb_reach rate most inputs k = min (max 1 (frames_of (sample inputs 2 k) rate)) most

abbrev pub comb_step : ℤ → List (List ℤ) → ℕ → ℤ × ℤ
comb_step old inputs k = (sat (floor (sample inputs 3 k *ℤ old) 16777216 +ℤ sample inputs 0 k), old)

abbrev pub comb_n : ℕ → List ℕ → List (List ℤ) → List ℕ × List ℤ
comb_n rate state inputs = ringed (comb_reach rate (max 1 (most_frames rate inputs))) comb_step state inputs
