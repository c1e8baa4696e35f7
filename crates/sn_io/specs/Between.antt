-- The points between the frames of a buffer that units read, one or none at each frame of a block. A place is counted in
-- parts of a frame: 2^24 of them are one frame.
use Rattle.std.specs.Prelude.{ℕ, ◌+◌, ◌-◌, ◌*◌, ◌/◌, ◌%◌, ◌==◌, nat_lt, true, not, ◌&&◌, cond, List, [], ◌∷◌, Option, Some, None, is_some, slice_index, ℤ, pos, negsuc, ◌+ℤ◌, ◌-ℤ◌, ◌*ℤ◌, int_lt}
use Rattle.std.specs.Int.{w64, cast_signed, cast_unsigned, int_min, int_max, int_rem_euclid}
use Rattle.sn_ports.specs.Limits.{block_frames}
use Rattle.sn_fixed.specs.Fixed.{floor}
use Rattle.sn_fixed.specs.Triggers.{rises}
use Rattle.sn_mem.specs.Blocks.{sample, sample_in, word_for, table}
use Rattle.sn_mem.specs.Done.{ended}
use Rattle.sn_io.specs.declared.between.Point.{Point}
use Rattle.sn_io.specs.declared.placing.Placed.{Placed}
use Rattle.sn_io.specs.Positions.{walked}

-- the sample on the straight line from a to b, so many parts after a
unfoldable pub between : ℤ → ℤ → ℕ → ℤ
between a b part = a +ℤ floor ((b -ℤ a) *ℤ pos part) 16777216

-- the frame after a frame: that after the last is the first if `loop` is above 0, else the last itself
abbrev pub next_frame : ℕ → ℤ → ℕ → ℕ
next_frame frames loop n = cond (n + 1 == frames) (cond (int_lt (pos 0) loop) 0 n) (n + 1)

-- the point at a place
abbrev pub point_of : ℕ → ℤ → ℕ → Point
point_of frames loop p = record { frame = p / 16777216; next = next_frame frames loop (p / 16777216); part = p % 16777216 }

-- if it lies in a buffer of so many frames
abbrev pub point_at : ℕ → ℤ → ℤ → Option Point
point_at frames loop (pos p) = cond (nat_lt p (frames * 16777216)) (Some (point_of frames loop p)) None
point_at frames loop (negsuc p) = None

-- a place modulo the frames of a buffer
abbrev pub wrapped : ℕ → ℤ → ℤ
wrapped frames x = int_rem_euclid x (pos (frames * 16777216))

-- ---- PlayBufL

-- Its four words: the done word, the last sample of the trigger, the place, a whole number of 64 bits, and whether it
-- has begun.
abbrev pub placed_in : List ℕ → Placed
placed_in ws = record { done = slice_index ws 0; trigger = sample_in (slice_index ws 1); place = cast_signed w64 (slice_index ws 2); begun = not (slice_index ws 3 == 0) }

abbrev pub placed_words : Placed → List ℕ
placed_words p = p.done ∷ word_for p.trigger ∷ cast_unsigned w64 p.place ∷ cond p.begun 1 0 ∷ []

-- the place of a frame
abbrev pub place_of : ℤ → ℤ
place_of frame = frame *ℤ pos 16777216

-- the place, which is first that of frame `start`
abbrev pub first_place : Placed → ℤ → ℤ
first_place p start = cond p.begun p.place (place_of start)

-- a rise sets it to that
abbrev pub started_place : Placed → ℤ → ℤ → ℤ
started_place p trigger start = cond (rises p.trigger trigger) (place_of start) (first_place p start)

-- a place outside is taken modulo the frames if `loop` is above 0
abbrev pub looped_place : ℕ → ℤ → ℤ → ℤ
looped_place frames loop x = cond (not (is_some (point_at frames loop x)) && int_lt (pos 0) loop) (wrapped frames x) x

-- the next place, from -2^62 to 2^62
abbrev pub next_place : ℤ → ℤ → ℤ
next_place x step = int_max (negsuc 4611686018427387903) (int_min (pos 4611686018427387904) (x +ℤ step))

-- A point, or the end if the place lies outside; `step` is added to the place in any case.
abbrev pub stepped : ℕ → Placed → ℤ → ℤ → ℤ → ℤ → Placed × Option Point
stepped frames p trigger step loop x = (
  record { done = cond (is_some (point_at frames loop x)) p.done (ended p.done); trigger = trigger; place = next_place x step; begun = true },
  point_at frames loop x,
)

-- PlayBufL buf# step trig start loop done!, with the frames of its buffer, if that can be used
abbrev pub play_buf_l : Option ℕ → Placed → List (List ℤ) → ℕ → Placed × Option Point
play_buf_l None p inputs k = (record { done = p.done; trigger = sample inputs 2 k; place = first_place p (sample inputs 3 k); begun = true }, None)
play_buf_l (Some frames) p inputs k =
    stepped frames p (sample inputs 2 k) (sample inputs 1 k) (sample inputs 4 k) (looped_place frames (sample inputs 4 k) (started_place p (sample inputs 2 k) (sample inputs 3 k)))

-- what it makes of its state words, and the points that it reads
abbrev pub play_points : Option ℕ → List ℕ → List (List ℤ) → List ℕ × List (Option Point)
play_points frames state inputs = walked placed_in placed_words (play_buf_l frames) state inputs

-- ---- BufRdL

-- a place modulo the frames if `loop` is above 0, else the nearest from that of the first frame to that of the last
abbrev pub held_place : ℕ → ℤ → ℤ → ℤ
held_place frames loop x = cond (int_lt (pos 0) loop) (wrapped frames x) (int_max (pos 0) (int_min (pos ((frames - 1) * 16777216)) x))

-- the point at `index` times `scale`
abbrev pub scaled_point : Option ℕ → ℤ → ℤ → ℤ → Option Point
scaled_point None index scale loop = None
scaled_point (Some frames) index scale loop = point_at frames loop (held_place frames loop (index *ℤ scale))

-- buf# index scale loop
abbrev pub scaled_points : Option ℕ → List (List ℤ) → List (Option Point)
scaled_points frames inputs = table (λ k. scaled_point frames (sample inputs 1 k) (sample inputs 2 k) (sample inputs 3 k)) block_frames
