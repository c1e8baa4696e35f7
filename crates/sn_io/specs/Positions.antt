-- The frames of a buffer that units read and write, one number or none at each frame of a block.
use Rattle.std.specs.Prelude.{ℕ, zero, suc, ◌+◌, ◌%◌, ◌==◌, nat_lt, Bool, true, not, ◌&&◌, cond, List, [], ◌∷◌, ◌++◌, Option, Some, None, is_some, slice_index, ℤ, pos, negsuc, ◌+ℤ◌, int_lt}
use Rattle.std.specs.Int.{int_rem_euclid}
use Rattle.sn_ports.specs.Limits.{block_frames}
use Rattle.sn_fixed.specs.Fixed.{sat}
use Rattle.sn_fixed.specs.Triggers.{rises}
use Rattle.sn_mem.specs.Blocks.{sample, sample_in, word_for, table}
use Rattle.sn_mem.specs.Done.{ended}
use Rattle.sn_io.specs.declared.playing.Playing.{Playing}
use Rattle.sn_io.specs.declared.recording.Recording.{Recording}

-- the frame of a number, if it is one of so many
abbrev pub frame_at : ℕ → ℤ → Option ℕ
frame_at frames (pos n) = cond (nat_lt n frames) (Some n) None
frame_at frames (negsuc n) = None

-- of a buffer, if there is one that can be used
abbrev pub frame_in : Option ℕ → ℤ → Option ℕ
frame_in None x = None
frame_in (Some frames) x = frame_at frames x

-- ---- a recurrence that gives a frame of a buffer, or what else is read there, at each frame of a block

-- over the first n frames: the state after them, and what it gave
unfoldable pub walk : {S A : Type 0} → (S → List (List ℤ) → ℕ → S × A) → S → List (List ℤ) → ℕ → S × List A
walk step s inputs zero = (s, [])
walk step s inputs (suc k) = let r = walk step s inputs k in let t = step r.0 inputs k in (t.0, r.1 ++ t.1 ∷ [])

-- over a block, from the words that hold its state
abbrev pub walked : {S A : Type 0} → (List ℕ → S) → (S → List ℕ) → (S → List (List ℤ) → ℕ → S × A) → List ℕ → List (List ℤ) → List ℕ × List A
walked loaded stored step state inputs = let r = walk step (loaded state) inputs block_frames in (stored r.0, r.1)

-- ---- PlayBuf

-- Its four words: the done word, the last sample of the trigger, the position, and whether it has begun.
abbrev pub playing_in : List ℕ → Playing
playing_in ws = record { done = slice_index ws 0; trigger = sample_in (slice_index ws 1); position = sample_in (slice_index ws 2); begun = not (slice_index ws 3 == 0) }

abbrev pub playing_words : Playing → List ℕ
playing_words p = p.done ∷ word_for p.trigger ∷ word_for p.position ∷ cond p.begun 1 0 ∷ []

-- the position, which is first `start`
abbrev pub begun_at : Playing → ℤ → ℤ
begun_at p start = cond p.begun p.position start

-- a rise sets it to `start`
abbrev pub started : Playing → ℤ → ℤ → ℤ
started p trigger start = cond (rises p.trigger trigger) start (begun_at p start)

-- a position outside is taken modulo the frames if `loop` is above 0
abbrev pub looped : ℕ → ℤ → ℤ → ℤ
looped frames loop x = cond (not (is_some (frame_at frames x)) && int_lt (pos 0) loop) (int_rem_euclid x (pos frames)) x

-- A frame, or the end if the position lies outside; `step` is added to the position in any case.
abbrev pub played : ℕ → Playing → ℤ → ℤ → ℤ → Playing × Option ℕ
played frames p trigger step x = (
  record { done = cond (is_some (frame_at frames x)) p.done (ended p.done); trigger = trigger; position = sat (x +ℤ step); begun = true },
  frame_at frames x,
)

-- PlayBuf buf# step trig start loop done!, with the frames of its buffer, if that can be used
abbrev pub play_buf : Option ℕ → Playing → List (List ℤ) → ℕ → Playing × Option ℕ
play_buf None p inputs k = (record { done = p.done; trigger = sample inputs 2 k; position = begun_at p (sample inputs 3 k); begun = true }, None)
play_buf (Some frames) p inputs k = played frames p (sample inputs 2 k) (sample inputs 1 k) (looped frames (sample inputs 4 k) (started p (sample inputs 2 k) (sample inputs 3 k)))

-- ---- RecordBuf

-- Its two words: the done word and the position.
abbrev pub recording_in : List ℕ → Recording
recording_in ws = record { done = slice_index ws 0; position = slice_index ws 1 % 4294967296 }

abbrev pub recording_words : Recording → List ℕ
recording_words r = r.done ∷ r.position ∷ []

-- whether the frame at the position is written
abbrev pub records : ℕ → Recording → ℤ → Bool
records frames r run = int_lt (pos 0) run && nat_lt r.position frames

-- After that frame: past the last one the position is 0 again if `loop` is above 0, else the unit ends.
abbrev pub recorded : ℕ → ℤ → Recording → Recording
recorded frames loop r = cond (r.position + 1 == frames)
    (cond (int_lt (pos 0) loop) (record { done = r.done; position = 0 }) (record { done = ended r.done; position = r.position + 1 }))
    (record { done = r.done; position = r.position + 1 })

-- RecordBuf buf# run loop done! signals, with the frames of its buffer, if that can be used
abbrev pub record_buf : Option ℕ → Recording → List (List ℤ) → ℕ → Recording × Option ℕ
record_buf None r inputs k = (r, None)
record_buf (Some frames) r inputs k = (
  cond (records frames r (sample inputs 1 k)) (recorded frames (sample inputs 2 k) r) r,
  cond (records frames r (sample inputs 1 k)) (Some r.position) None,
)

-- ---- BufRd and BufWr

-- buf# index
abbrev pub indexed : Option ℕ → List (List ℤ) → List (Option ℕ)
indexed frames inputs = table (λ k. frame_in frames (sample inputs 1 k)) block_frames
