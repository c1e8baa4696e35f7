-- `/b_allocRead` number frames channels samples: a buffer of the samples that the command carries.
use Rattle.std.specs.Prelude.{ℕ, zero, suc, ◌*◌, ◌==◌, ℤ, Bool, true, false, if◌then◌else◌, List, [], ◌∷◌, length, drop, Option, Some, None, Result, Err, codes}
use Rattle.sn_osc.specs.Reading.{int_in}
use Rattle.sn_osc.specs.Shape.{Argument, int, string, blob}
use Rattle.sn_reply.specs.declared.reason.Reason.{Reason}
use Rattle.sn_reply.specs.declared.reason.Reason.TheVariants as Reasons
use Rattle.sn_world.specs.declared.buffer_repetition.NewBuffer.{NewBuffer}
use Rattle.sn_world.specs.BufferCommands.{frame_count, channel_count, asked_with, hold}
use Rattle.sn_world.specs.Runs.{number}
use Rattle.sn_world.specs.World.{Turn}

-- so many integers of 4 bytes, big-endian
unfoldable pub ints_in : ℕ → List ℕ → List ℤ
ints_in zero bytes = []
ints_in (suc n) bytes = int_in bytes ∷ ints_in n (drop 4 bytes)

-- a buffer, and the bytes of its samples
pub record FilledBuffer : Type 0 where
  pub new : NewBuffer
  pub bytes : List ℕ

abbrev pub samples_in : FilledBuffer → List ℤ
samples_in f = ints_in (f.new.frames * f.new.channels) f.bytes

-- exactly the bytes of all its samples
abbrev pub filled_with : Option NewBuffer → List ℕ → Option FilledBuffer
filled_with None bytes = None
filled_with (Some r) bytes = if length bytes == 4 * (r.frames * r.channels) then Some (record { new = r; bytes = bytes }) else None

abbrev pub filled_buffer : List Argument → Option FilledBuffer
filled_buffer (n ∷ frames ∷ channels ∷ blob bytes ∷ []) = filled_with (asked_with (number n) (frame_count frames) (channel_count channels)) bytes
filled_buffer _ = None

-- ---- the form with the path of a file, which nothing is read from here

abbrev pub behind_int : List Argument → List Argument
behind_int [] = []
behind_int (int n ∷ xs) = xs
behind_int (string s ∷ xs) = string s ∷ xs
behind_int (blob b ∷ xs) = blob b ∷ xs

abbrev pub is_one_blob : List Argument → Bool
is_one_blob [] = true
is_one_blob (blob b ∷ []) = true
is_one_blob _ = false

-- a number, a path, up to two integers and at most one blob
abbrev pub is_path_form : List Argument → Bool
is_path_form (int n ∷ string path ∷ rest) = is_one_blob (behind_int (behind_int rest))
is_path_form _ = false

-- ---- the row

abbrev pub read_outcome : ℕ → Option FilledBuffer → Turn → Result Turn Reason
read_outcome from None t = Err Reasons.Arguments
read_outcome from (Some f) t = hold (codes "/b_allocRead") (samples_in f) from f.new t

abbrev pub read_row : ℕ → List Argument → Turn → Result Turn Reason
read_row from xs t = if is_path_form xs then Err Reasons.File else read_outcome from (filled_buffer xs) t
