-- Linen.
use Rattle.std.specs.Prelude.{ℕ, ◌+◌, ◌-◌, ◌%◌, ◌==◌, nat_lt, List, [], ◌∷◌, slice_index, ℤ, pos, int_lt, cond}
use Rattle.sn_fixed.specs.Fixed.{frames_of}
use Rattle.sn_fixed.specs.Lines.{line_at}
use Rattle.sn_mem.specs.Blocks.{sample, sample_in, word_for}
use Rattle.sn_mem.specs.Done.{ended}
use Rattle.sn_gen.specs.declared.linen.Segment.{Segment}
use Rattle.sn_gen.specs.declared.linen.Segment.TheVariants.{Waiting, Open, Released}
use Rattle.sn_gen.specs.declared.linen.Envelope.{Envelope}

abbrev pub segment_in : ℕ → Segment
segment_in w = cond (w == 0) Waiting (cond (w == 1) Open Released)

abbrev pub segment_word : Segment → ℕ
segment_word Waiting = 0
segment_word Open = 1
segment_word Released = 2

-- the done word, the segment, the next frame of the segment and how many it has, the level, the output that the release
-- falls from, and the last output
abbrev pub envelope_in : List ℕ → Envelope
envelope_in ws = record { done = slice_index ws 0; segment = segment_in (slice_index ws 1); frame = slice_index ws 2 % 4294967296; frames = slice_index ws 3 % 4294967296; level = sample_in (slice_index ws 4); top = sample_in (slice_index ws 5); last = sample_in (slice_index ws 6) }

abbrev pub envelope_words : Envelope → List ℕ
envelope_words e = e.done ∷ segment_word e.segment ∷ e.frame ∷ e.frames ∷ word_for e.level ∷ word_for e.top ∷ word_for e.last ∷ []

-- the attack begins at the first frame with the gate above 0, and the release at the first frame after that with the
-- gate at most 0
abbrev pub gated_at : Segment → ℕ → Envelope → List (List ℤ) → ℕ → Envelope
gated_at Waiting rate e inputs k = cond (int_lt (pos 0) (sample inputs 0 k)) (record e { segment = Open; frame = 0; frames = frames_of (sample inputs 1 k) rate; level = sample inputs 2 k }) e
gated_at Open rate e inputs k = cond (int_lt (pos 0) (sample inputs 0 k)) e (record e { segment = Released; frame = 0; frames = frames_of (sample inputs 3 k) rate; top = e.last })
gated_at Released rate e inputs k = e

abbrev pub gated : ℕ → Envelope → List (List ℤ) → ℕ → Envelope
gated rate e inputs k = gated_at e.segment rate e inputs k

-- up to the level, and down from the last output to 0
abbrev pub height_at : Segment → Envelope → ℤ
height_at Waiting e = pos 0
height_at Open e = cond (nat_lt e.frame e.frames) (line_at (pos 0) e.level e.frame e.frames) e.level
height_at Released e = cond (nat_lt e.frame e.frames) (line_at (pos 0) e.top (e.frames - e.frame) e.frames) (pos 0)

abbrev pub height : Envelope → ℤ
height e = height_at e.segment e

-- it ends at the first frame of the 0 after the release
abbrev pub done_at : Segment → Envelope → ℕ
done_at Released e = cond (nat_lt e.frame e.frames) e.done (ended e.done)
done_at _ e = e.done

-- frames are counted up to the segment's last
abbrev pub passed : Envelope → ℤ → Envelope
passed e y = record e { done = done_at e.segment e; frame = cond (nat_lt e.frame e.frames) (e.frame + 1) e.frame; last = y }

-- Linen gate attack level release done!
abbrev pub linen : ℕ → Envelope → List (List ℤ) → ℕ → Envelope × ℤ
linen rate e inputs k = let g = gated rate e inputs k in let y = height g in (passed g y, y)
