-- What one unit on a buffer makes of a block.
use Rattle.std.specs.Prelude.{ℕ, zero, suc, ◌+◌, ◌-◌, ◌*◌, ◌==◌, Bool, cond, List, [], ◌∷◌, length, replicate, Option, Some, None, ℤ, pos, slice_index_or, slice_set}
use Rattle.std.specs.Option.{option_map}
use Rattle.sn_ports.specs.Limits.{block_frames}
use Rattle.sn_fixed.specs.Fixed.{sat}
use Rattle.sn_def.specs.declared.kind.Kind.{Kind}
use Rattle.sn_def.specs.declared.kind.Kind.TheVariants as kinds
use Rattle.sn_def.specs.declared.control.Now.{Now}
use Rattle.sn_def.specs.declared.table.Family.TheVariants as families
use Rattle.sn_def.specs.declared.table.Access.TheVariants as accesses
use Rattle.sn_def.specs.declared.table.Bank.TheVariants as banks
use Rattle.sn_def.specs.Facts.{is_of, touches}
use Rattle.sn_mem.specs.Blocks.{sample, table}
use Rattle.sn_mem.specs.Buffers.{Buffer}
use Rattle.sn_io.specs.Channels.{control_number}
use Rattle.sn_io.specs.Positions.{walked, playing_in, playing_words, play_buf, recording_in, recording_words, record_buf, indexed}
use Rattle.sn_io.specs.declared.between.Point.{Point}
use Rattle.sn_io.specs.Between.{between, play_points, scaled_points}

-- after a unit's block: its state words, the blocks that it gives, and the buffers
pub record BufferBlock : Type 0 where
  pub state : List ℕ
  pub outputs : List (List ℤ)
  pub buffers : List (Option Buffer)

abbrev pub is_buffer_unit : Kind → Bool
is_buffer_unit kind = is_of families.Buffer kind

abbrev pub reads_buffer : Kind → Bool
reads_buffer kind = touches accesses.Read banks.Buffer kind

abbrev pub writes_buffer : Kind → Bool
writes_buffer kind = touches accesses.Write banks.Buffer kind

-- ---- the buffer of a unit

-- the number of a buffer, if there is one: from 0 to 1,023
abbrev pub buffer_number : List (List ℤ) → Option ℕ
buffer_number inputs = control_number (sample inputs 0 0)

abbrev pub numbered : {B : Type 0} → Option ℕ → List (Option B) → Option B
numbered None buffers = None
numbered (Some n) buffers = slice_index_or buffers n None

-- the buffer whose number is that of the first input, the index
abbrev pub chosen : {B : Type 0} → List (List ℤ) → List (Option B) → Option B
chosen inputs buffers = numbered (buffer_number inputs) buffers

-- a buffer can be used if it has as many channels as the unit
abbrev pub usable : {B : Type 0} → (B → ℕ) → ℕ → Option B → Option B
usable channels n None = None
usable channels n (Some b) = cond (channels b == n) (Some b) None

abbrev pub usable_buffer : ℕ → List (List ℤ) → List (Option Buffer) → Option Buffer
usable_buffer n inputs buffers = usable (λ b. b.channels) n (chosen inputs buffers)

abbrev pub frames_in : Option Buffer → Option ℕ
frames_in buffer = option_map (λ b. b.frames) buffer

-- ---- reading

-- the sample of a channel at a frame, 0 if there is no frame
abbrev pub sample_at : Option Buffer → Option ℕ → ℕ → ℤ
sample_at None frame channel = pos 0
sample_at (Some b) None channel = pos 0
sample_at (Some b) (Some frame) channel = slice_index_or b.samples (frame * b.channels + channel) (pos 0)

-- the channels of a buffer at the frames of these numbers
abbrev pub gathered : Option Buffer → List (Option ℕ) → ℕ → List (List ℤ)
gathered buffer frames n = table (λ c. table (λ k. sample_at buffer (slice_index_or frames k None) c) block_frames) n

-- the sample of a channel at a point between two frames, 0 if there is no point
abbrev pub sample_between : Option Buffer → Option Point → ℕ → ℤ
sample_between None point channel = pos 0
sample_between (Some b) None channel = pos 0
sample_between (Some b) (Some p) channel = between (sample_at (Some b) (Some p.frame) channel) (sample_at (Some b) (Some p.next) channel) p.part

-- the channels of a buffer at these points
abbrev pub gathered_between : Option Buffer → List (Option Point) → ℕ → List (List ℤ)
gathered_between buffer points n = table (λ c. table (λ k. sample_between buffer (slice_index_or points k None) c) block_frames) n

-- ---- writing

-- the samples of the inputs from number `first` on at frame k, set one after the other from a place on
unfoldable pub set_frame : {S : Type 0} → (S → ℕ → ℤ → S) → List (List ℤ) → ℕ → ℕ → ℕ → ℕ → S → S
set_frame set inputs first k place zero s = s
set_frame set inputs first k place (suc c) s = set (set_frame set inputs first k place c s) (place + c) (sample inputs (first + c) k)

abbrev pub set_at : {S : Type 0} → (S → ℕ → ℤ → S) → List (List ℤ) → ℕ → ℕ → ℕ → Option ℕ → S → S
set_at set inputs first channels k None s = s
set_at set inputs first channels k (Some frame) s = set_frame set inputs first k (frame * channels) channels s

-- the same at the first n frames of a block, in their order, at the frames of these numbers
unfoldable pub scattered : {S : Type 0} → (S → ℕ → ℤ → S) → List (List ℤ) → ℕ → ℕ → List (Option ℕ) → ℕ → S → S
scattered set inputs first channels frames zero s = s
scattered set inputs first channels frames (suc k) s = set_at set inputs first channels k (slice_index_or frames k None) (scattered set inputs first channels frames k s)

-- A sample has 32 bits, so sat leaves it as it is.
abbrev pub set_sample : List ℤ → ℕ → ℤ → List ℤ
set_sample samples place x = slice_set samples place (sat x)

abbrev pub written : List (List ℤ) → ℕ → List (Option ℕ) → Buffer → Buffer
written inputs first frames b = record b { samples = scattered set_sample inputs first b.channels frames block_frames b.samples }

-- the signals are the inputs from number `first` on
abbrev pub signals_from : ℕ → List (List ℤ) → ℕ
signals_from first inputs = length inputs - first

-- a buffer takes its place among the others
abbrev pub replaced_at : Option ℕ → List (Option Buffer) → Option Buffer → List (Option Buffer)
replaced_at None buffers buffer = buffers
replaced_at (Some n) buffers None = buffers
replaced_at (Some n) buffers (Some b) = slice_set buffers n (Some b)

abbrev pub rewritten : List (List ℤ) → ℕ → List (Option ℕ) → List (Option Buffer) → List (Option Buffer)
rewritten inputs first frames buffers = replaced_at (buffer_number inputs) buffers (option_map (written inputs first frames) (usable_buffer (signals_from first inputs) inputs buffers))

-- ---- units

-- the number of frames, 0 if there is no buffer
abbrev pub length_in : Option ℕ → ℕ
length_in None = 0
length_in (Some frames) = frames

-- what PlayBuf and RecordBuf make of their state words, and the frames that they read or write
abbrev pub play_frames : Option ℕ → List ℕ → List (List ℤ) → List ℕ × List (Option ℕ)
play_frames frames state inputs = walked playing_in playing_words (play_buf frames) state inputs

abbrev pub record_frames : Option ℕ → List ℕ → List (List ℤ) → List ℕ × List (Option ℕ)
record_frames frames state inputs = walked recording_in recording_words (record_buf frames) state inputs

-- From its state words, its inputs' blocks and the buffers, with so many outputs. Nothing of `now` counts.
unfoldable pub buffer_unit : Kind → Now → ℕ → List ℕ → List (List ℤ) → List (Option Buffer) → BufferBlock
buffer_unit kinds.PlayBuf now n state inputs buffers =
    let b = usable_buffer n inputs buffers in
    let r = play_frames (frames_in b) state inputs in
    record { state = r.0; outputs = gathered b r.1 n; buffers = buffers }
buffer_unit kinds.PlayBufL now n state inputs buffers =
    let b = usable_buffer n inputs buffers in
    let r = play_points (frames_in b) state inputs in
    record { state = r.0; outputs = gathered_between b r.1 n; buffers = buffers }
buffer_unit kinds.RecordBuf now n state inputs buffers =
    let r = record_frames (frames_in (usable_buffer (signals_from 4 inputs) inputs buffers)) state inputs in
    record { state = r.0; outputs = []; buffers = rewritten inputs 4 r.1 buffers }
buffer_unit kinds.BufRd now n state inputs buffers =
    let b = usable_buffer n inputs buffers in
    record { state = state; outputs = gathered b (indexed (frames_in b) inputs) n; buffers = buffers }
buffer_unit kinds.BufRdL now n state inputs buffers =
    let b = usable_buffer n inputs buffers in
    record { state = state; outputs = gathered_between b (scaled_points (frames_in b) inputs) n; buffers = buffers }
buffer_unit kinds.BufWr now n state inputs buffers =
    record { state = state; outputs = []; buffers = rewritten inputs 2 (indexed (frames_in (usable_buffer (signals_from 2 inputs) inputs buffers)) inputs) buffers }
buffer_unit kinds.BufFrames now n state inputs buffers = record { state = state; outputs = replicate block_frames (pos (length_in (frames_in (chosen inputs buffers)))) ∷ []; buffers = buffers }
buffer_unit _ now n state inputs buffers = record { state = state; outputs = []; buffers = buffers }
