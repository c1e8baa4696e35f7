-- `/b_alloc`, `/b_free`, `/b_zero` and `/b_query`.
use Rattle.std.specs.Prelude.{ℕ, ◌*◌, ℤ, pos, nat_abs, ◌&&◌, int_le, if◌then◌else◌, List, [], ◌∷◌, ◌++◌, length, replicate, Option, Some, None, Result, Ok, Err, codes}
use Rattle.sn_ports.specs.Limits.{most_channels}
use Rattle.sn_osc.specs.Shape.{Argument, int, string, blob, arguments, MessageShape}
use Rattle.sn_pool.specs.Regions.{least_place}
use Rattle.sn_reply.specs.declared.reason.Reason.{Reason}
use Rattle.sn_reply.specs.declared.reason.Reason.TheVariants as Reasons
use Rattle.sn_world.specs.declared.buffer_repetition.NewBuffer.{NewBuffer}
use Rattle.sn_world.specs.declared.buffer_repetition.BufferNumber.{BufferNumber}
use Rattle.sn_mem.specs.Buffers.{Buffer}
use Rattle.sn_world.specs.BufferNumbers.{at_number, put_at, with_samples, number_refusal, buffer_refusal, done_message}
use Rattle.sn_world.specs.Runs.{number}
use Rattle.sn_world.specs.World.{World, Turn, live_of, replied}
use Rattle.sn_world.specs.Rows.{unless, question, singles, some_of}

-- ---- `/b_alloc` number frames [channels]

-- at least one frame, and 1 to 8 channels
abbrev pub frame_count : Argument → Option ℕ
frame_count (int n) = if int_le (pos 1) n then Some (nat_abs n) else None
frame_count (string s) = None
frame_count (blob b) = None

abbrev pub channel_count : Argument → Option ℕ
channel_count (int n) = if int_le (pos 1) n && int_le n (pos most_channels) then Some (nat_abs n) else None
channel_count (string s) = None
channel_count (blob b) = None

abbrev pub asked_with : Option ℤ → Option ℕ → Option ℕ → Option NewBuffer
asked_with (Some n) (Some frames) (Some channels) = Some (record { number = n; frames = frames; channels = channels })
asked_with _ _ _ = None

-- one channel if no number is given
abbrev pub new_buffer : List Argument → Option NewBuffer
new_buffer (n ∷ frames ∷ []) = asked_with (number n) (frame_count frames) (Some 1)
new_buffer (n ∷ frames ∷ channels ∷ []) = asked_with (number n) (frame_count frames) (channel_count channels)
new_buffer _ = None

-- the world after a buffer, if one is there, was given back
abbrev pub without_buffer : ℤ → World → World
without_buffer n w = record w { buffers = put_at n None w.buffers }

-- The least place of the pool for its samples, if there is one. A buffer with its number is given back first.
abbrev pub place_for : World → NewBuffer → Option ℕ
place_for w r = least_place w.region (live_of (without_buffer r.number w)) (r.frames * r.channels)

-- a buffer of these samples
abbrev pub holding : List ℤ → NewBuffer → ℕ → Buffer
holding samples r at = record {
  frames = r.frames;
  channels = r.channels;
  samples = samples;
  extent = record { at = at; len = r.frames * r.channels };
}

abbrev pub zeros_of : NewBuffer → List ℤ
zeros_of r = replicate (r.frames * r.channels) (pos 0)

-- it has the place that was found, and it is told that the command was carried out
abbrev pub hold_at : List ℕ → List ℤ → ℕ → NewBuffer → Option ℕ → Turn → Result Turn Reason
hold_at command samples from r None t = Err Reasons.PoolFull
hold_at command samples from r (Some at) t = Ok (replied from (done_message command r.number) (record t { world = record t.world { buffers = put_at r.number (Some (holding samples r at)) t.world.buffers } }))

abbrev pub hold : List ℕ → List ℤ → ℕ → NewBuffer → Turn → Result Turn Reason
hold command samples from r t = unless (number_refusal r.number) (hold_at command samples from r (place_for t.world r) t)

abbrev pub alloc_outcome : ℕ → Option NewBuffer → Turn → Result Turn Reason
alloc_outcome from None t = Err Reasons.Arguments
alloc_outcome from (Some r) t = hold (codes "/b_alloc") (zeros_of r) from r t

abbrev pub alloc_row : ℕ → List Argument → Turn → Result Turn Reason
alloc_row from xs t = alloc_outcome from (new_buffer xs) t

-- ---- `/b_free` number

abbrev pub one_number : List Argument → Option ℤ
one_number (x ∷ []) = number x
one_number _ = None

abbrev pub free_outcome : ℕ → Option ℤ → Turn → Result Turn Reason
free_outcome from None t = Err Reasons.Arguments
free_outcome from (Some n) t = unless (buffer_refusal n t.world) (Ok (replied from (done_message (codes "/b_free") n) (record t { world = without_buffer n t.world })))

abbrev pub free_buffer_row : ℕ → List Argument → Turn → Result Turn Reason
free_buffer_row from xs t = free_outcome from (one_number xs) t

-- ---- `/b_zero` number

abbrev pub zeros : List ℤ → List ℤ
zeros samples = replicate (length samples) (pos 0)

abbrev pub zero_outcome : ℕ → Option ℤ → Turn → Result Turn Reason
zero_outcome from None t = Err Reasons.Arguments
zero_outcome from (Some n) t = unless (buffer_refusal n t.world) (Ok (replied from (done_message (codes "/b_zero") n) (record t { world = with_samples n zeros t.world })))

abbrev pub zero_row : ℕ → List Argument → Turn → Result Turn Reason
zero_row from xs t = zero_outcome from (one_number xs) t

-- ---- `/b_query` number..

abbrev pub buffer_number : Argument → Option BufferNumber
buffer_number (int n) = Some (record { number = n })
buffer_number (string s) = None
buffer_number (blob b) = None

abbrev pub judge_query : World → BufferNumber → Option Reason
judge_query w r = number_refusal r.number

-- the frames, the channels and the rate of a buffer, zeros if none is allocated
abbrev pub info : ℕ → Option Buffer → List Argument
info rate None = int (pos 0) ∷ int (pos 0) ∷ int (pos 0) ∷ []
info rate (Some b) = int (pos b.frames) ∷ int (pos b.channels) ∷ int (pos rate) ∷ []

abbrev pub infos : World → List BufferNumber → List Argument
infos w [] = []
infos w (r ∷ rs) = int r.number ∷ info w.rate (at_number w.buffers r.number) ++ infos w rs

-- `/b_info` (number frames channels rate)..
abbrev pub answer_query : World → List BufferNumber → MessageShape
answer_query w rs = record { address = codes "/b_info"; body = arguments (infos w rs) }

abbrev pub query_row : ℕ → List Argument → Turn → Result Turn Reason
query_row from xs = question judge_query answer_query from (some_of (singles buffer_number xs))
