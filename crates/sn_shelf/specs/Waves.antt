-- What a WAV file is: its chunks, its format, and its samples.
use Rattle.std.specs.Prelude.{◌+◌, ◌*◌, ◌/◌, ◌%◌, ◌^◌, ◌==◌, ◌&&◌, ◌||◌, ℕ, zero, suc, ℤ, pos, ◌*ℤ◌, ◌-ℤ◌, Bool, not, nat_lt, nat_le, if◌then◌else◌, List, [], ◌∷◌, length, take, drop, Option, Some, None, option_and_then, codes}
use Rattle.std.specs.List.{starts_with}
use Rattle.std.specs.Int.{w16, w32, from_le_bytes, cast_signed}
use Rattle.sn_ports.specs.Limits.{most_file, most_channels}

-- What is heard: how many channels there are, and the samples of one frame after the other, each frame's in the order
-- of the channels.
pub record Wave : Type 0 where
  pub channels : ℕ
  pub samples : List ℤ

-- the number of two bytes, and of four, at a place, little-endian
abbrev pub number_16 : ℕ → List ℕ → ℕ
number_16 at bytes = from_le_bytes w16 (take 2 (drop at bytes))

abbrev pub number_32 : ℕ → List ℕ → ℕ
number_32 at bytes = from_le_bytes w32 (take 4 (drop at bytes))

-- ---- chunks: a name of 4 bytes, a size of 4, so many bytes, and one more byte if the size is odd

abbrev pub is_named : List ℕ → List ℕ → Bool
is_named name chunk = starts_with (λ a b. a == b) chunk name

abbrev pub size_of : List ℕ → ℕ
size_of chunk = number_32 4 chunk

-- the bytes of the first chunk, as far as they are there
abbrev pub content_of : List ℕ → List ℕ
content_of chunk = take (size_of chunk) (drop 8 chunk)

-- the chunks after the first
abbrev pub behind : List ℕ → List ℕ
behind chunk = drop (size_of chunk + size_of chunk % 2) (drop 8 chunk)

-- from the first chunk on that has one of two names, among at most so many
unfoldable pub first_named : List ℕ → List ℕ → ℕ → List ℕ → Option (List ℕ)
first_named one other zero chunks = None
first_named one other (suc n) chunks =
    if nat_lt (length chunks) 8 then None else
    if is_named one chunks || is_named other chunks then Some chunks else first_named one other n (behind chunks)

-- from the first on among all of them
abbrev pub first_of : List ℕ → List ℕ → List ℕ → Option (List ℕ)
first_of one other chunks = first_named one other (length chunks) chunks

-- ---- formats

abbrev pub channels_in : List ℕ → ℕ
channels_in format = number_16 2 format

abbrev pub align_in : List ℕ → ℕ
align_in format = number_16 12 format

abbrev pub bits_in : List ℕ → ℕ
bits_in format = number_16 14 format

-- whole numbers, said plainly or in an extended format
abbrev pub is_pcm : List ℕ → Bool
is_pcm format = (number_16 0 format == 1) || ((number_16 0 format == 65534) && nat_le 40 (length format) && (number_16 24 format == 1))

-- 1 to 8 channels of 16 or 24 bits, and frames without gaps
abbrev pub is_playable : List ℕ → Bool
is_playable format = nat_le 1 (channels_in format) && nat_le (channels_in format) most_channels && ((bits_in format == 16) || (bits_in format == 24))
    && (align_in format == channels_in format * bits_in format / 8)

abbrev pub is_format : List ℕ → Bool
is_format format = nat_le 16 (length format) && is_pcm format && is_playable format

-- ---- samples

-- two's complement of 24 bits
abbrev pub signed_24 : ℕ → ℤ
signed_24 n = if nat_lt n (2 ^ 23) then pos n else pos n -ℤ pos (2 ^ 24)

-- a sample of 16 bits times 512, and one of 24 bits times 2
abbrev pub sample_16 : List ℕ → ℤ
sample_16 bytes = cast_signed w16 (from_le_bytes w16 bytes) *ℤ pos 512

abbrev pub sample_24 : List ℕ → ℤ
sample_24 bytes = signed_24 (from_le_bytes w32 bytes) *ℤ pos 2

-- the first sample, of 2 bytes or of 3
abbrev pub sample_of : ℕ → List ℕ → ℤ
sample_of width bytes = if width == 2 then sample_16 (take 2 bytes) else sample_24 (take 3 bytes)

-- so many samples, each of so many bytes
unfoldable pub samples_of : ℕ → ℕ → List ℕ → List ℤ
samples_of zero width bytes = []
samples_of (suc n) width bytes = sample_of width bytes ∷ samples_of n width (drop width bytes)

-- the whole frames, each of so many bytes, if there is one
abbrev pub whole_frames : ℕ → ℕ → ℕ → List ℕ → Option Wave
whole_frames channels width align sounding =
    if nat_lt (length sounding) align then None else
    Some (record { channels = channels; samples = samples_of (length sounding / align * channels) width sounding })

abbrev pub wave_of : List ℕ → List ℕ → Option Wave
wave_of format sounding = whole_frames (channels_in format) (bits_in format / 8) (align_in format) sounding

-- ---- files

abbrev pub format_name : List ℕ
format_name = codes "fmt "

abbrev pub data_name : List ℕ
data_name = codes "data"

-- at most 33,554,432 bytes, which begin with `RIFF`, four bytes and `WAVE`
abbrev pub is_headed : List ℕ → Bool
is_headed bytes = nat_le (length bytes) most_file && nat_le 12 (length bytes) && is_named (codes "RIFF") bytes && is_named (codes "WAVE") (drop 8 bytes)

-- the first chunk of data after a format
abbrev pub data_behind : List ℕ → Option (List ℕ)
data_behind chunk = first_of data_name data_name (behind chunk)

-- what a format chunk says of the data after it
abbrev pub wave_from : List ℕ → Option Wave
wave_from chunk =
    if is_named data_name chunk || not (is_format (content_of chunk)) then None else
    option_and_then (λ found. wave_of (content_of chunk) (content_of found)) (data_behind chunk)

-- What is heard of the bytes of a WAV file. The first chunk of the format comes before the first of data; other chunks
-- are passed over.
unfoldable pub wave_in : List ℕ → Option Wave
wave_in bytes =
    if not (is_headed bytes) then None else
    option_and_then wave_from (first_of format_name data_name (drop 12 bytes))
