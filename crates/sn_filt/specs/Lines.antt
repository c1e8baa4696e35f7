-- Delay lines that are heard between two frames: rings of samples in words, by times in seconds.
use Rattle.std.specs.Prelude.{ℕ, ◌+◌, ◌-◌, ◌*◌, ◌%◌, max, min, List, [], ◌∷◌, length, slice_index, slice_set, ℤ, ◌+ℤ◌, ◌-ℤ◌, ◌*ℤ◌}
use Rattle.sn_ports.specs.Limits.{block_frames}
use Rattle.sn_fixed.specs.Fixed.{floor, sat}
use Rattle.sn_fixed.specs.Lines.{line_at}
use Rattle.sn_mem.specs.Blocks.{sample, sample_in, word_for, scan}
use Rattle.sn_filt.specs.Arithmetic.{clipped}
use Rattle.sn_filt.specs.Poles.{pole}
use Rattle.sn_filt.specs.Rings.{before, after, most_frames}
use Rattle.sn_filt.specs.Seconds.{span, whole_frames, frame_part}
use Rattle.sn_filt.specs.declared.lines.Comb.{Comb}
use Rattle.sn_filt.specs.declared.lines.CombFrame.{CombFrame}

-- ---- rings

-- what a ring holds n places before its next one; the ring is in the words after the first `head`
abbrev pub past : ℕ → ℕ → ℕ → List ℕ → ℕ → ℤ
past head places place ws n = sample_in (slice_index ws (head + before places place n))

-- between two samples, by the part of a frame after the first
abbrev pub between : ℤ → ℤ → ℕ → ℤ
between a b part = line_at a b part 16777216

-- what is heard of a ring, by how far back it is, in parts of a frame: with n whole frames in that, it lies between
-- what the ring holds n places and n + 1 places before its next one
unfoldable pub echo : ℕ → ℕ → ℕ → List ℕ → ℕ → ℤ
echo head places place ws reach =
    let n = whole_frames reach in
    between (past head places place ws n) (past head places place ws (n + 1)) (frame_part reach)

-- how far back, by the time, which is the third input: at most the longest delay
abbrev pub line_reach : ℕ → ℕ → List (List ℤ) → ℕ → ℕ
line_reach rate most inputs k = min (span (sample inputs 2 k) rate) (most * 16777216)

-- ---- DelayL x max! time

-- One frame, from the next place of the ring and the words, of which the first is before the ring. The input is kept
-- first, so that it is what is heard by no time at all.
unfoldable pub delay_l_step : ℕ → ℕ → ℕ → ℕ × List ℕ → List (List ℤ) → ℕ → (ℕ × List ℕ) × ℤ
delay_l_step rate most places s inputs k =
    let ws = slice_set s.1 (1 + s.0) (word_for (sample inputs 0 k)) in
    ((after places s.0, ws), echo 1 places s.0 ws (line_reach rate most inputs k))

-- a block: the words after it, and the output; the first word holds the next place
abbrev pub delay_ring : ℕ → ℕ → List ℕ → List (List ℤ) → List ℕ × List ℤ
delay_ring rate most state inputs =
    let places = length state - 1 in
    let r = scan (delay_l_step rate most places) (slice_index state 0 % places, state) inputs block_frames in
    (slice_set r.0.1 0 r.0.0, r.1)

abbrev pub delay_l : ℕ → List ℕ → List (List ℤ) → List ℕ × List ℤ
delay_l rate state inputs = delay_ring rate (most_frames rate inputs) state inputs

-- ---- CombL x max! time c damp

-- at least one frame
abbrev pub comb_l_reach : ℕ → ℕ → List (List ℤ) → ℕ → ℕ
comb_l_reach rate most inputs k = max 16777216 (line_reach rate most inputs k)

-- One frame, from the last damped sample, from y, which is heard of the ring, and from the inputs. y is damped, and the
-- sum of the input and of what is fed back is kept. The outputs are the comb, which is y, and the allpass.
unfoldable pub combed : ℤ → ℤ → ℤ → ℤ → ℤ → CombFrame
combed last y x c damp =
    let l = pole last y (clipped damp) in
    let s = sat (floor (c *ℤ l) 16777216 +ℤ x) in
    record { last = l; kept = s; comb = y; allpass = sat (y -ℤ floor (c *ℤ s) 16777216) }

-- the same with the comb and the words, of which the first two are before the ring
abbrev pub comb_l_frame : ℕ → ℕ → ℕ → Comb × List ℕ → List (List ℤ) → ℕ → CombFrame
comb_l_frame rate most places s inputs k =
    combed s.0.last (echo 2 places s.0.place s.1 (comb_l_reach rate most inputs k)) (sample inputs 0 k) (sample inputs 3 k) (sample inputs 4 k)

-- the comb of the next frame
abbrev pub comb_after : ℕ → Comb → CombFrame → Comb
comb_after places c r = record { place = after places c.place; last = r.last }

-- the comb and the words after it, and one of the outputs
unfoldable pub comb_l_step : (CombFrame → ℤ) → ℕ → ℕ → ℕ → Comb × List ℕ → List (List ℤ) → ℕ → (Comb × List ℕ) × ℤ
comb_l_step output rate most places s inputs k =
    let r = comb_l_frame rate most places s inputs k in
    ((comb_after places s.0 r, slice_set s.1 (2 + s.0.place) (word_for r.kept)), output r)

-- the first two words hold the next place and the last damped sample
abbrev pub comb_in : ℕ → List ℕ → Comb
comb_in places ws = record { place = slice_index ws 0 % places; last = sample_in (slice_index ws 1) }

-- a block: the words after it, and an output
abbrev pub comb_ring : (CombFrame → ℤ) → ℕ → ℕ → List ℕ → List (List ℤ) → List ℕ × List ℤ
comb_ring output rate most state inputs =
    let places = length state - 2 in
    let r = scan (comb_l_step output rate most places) (comb_in places state, state) inputs block_frames in
    (slice_set (slice_set r.0.1 0 r.0.0.place) 1 (word_for r.0.0.last), r.1)

-- and both outputs
abbrev pub comb_rings : ℕ → ℕ → List ℕ → List (List ℤ) → List ℕ × List (List ℤ)
comb_rings rate most state inputs =
    let comb = comb_ring (λ y. y.comb) rate most state inputs in
    let allpass = comb_ring (λ y. y.allpass) rate most state inputs in
    (comb.0, comb.1 ∷ allpass.1 ∷ [])

abbrev pub comb_l : ℕ → List ℕ → List (List ℤ) → List ℕ × List (List ℤ)
comb_l rate state inputs = comb_rings rate (max 1 (most_frames rate inputs)) state inputs
