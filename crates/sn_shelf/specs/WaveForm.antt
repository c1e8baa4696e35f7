-- A WAV file as it is written: what stands after what.
use Rattle.std.specs.Prelude.{◌≡◌, ◌≤◌, ◌%◌, ℕ, zero, suc, Bool, true, false, ◌||◌, List, ◌++◌, length, take, Some, bytes_eq, codes}
use Rattle.std.specs.Int.{w32, from_le_bytes}
use Rattle.sn_ports.specs.Limits.{most_file}
use Rattle.sn_shelf.specs.Waves.{Wave, format_name, data_name, is_format, wave_of}

-- A chunk stands before a rest: a name of 4 bytes, 4 bytes with the size, little-endian, so many bytes, and one more
-- byte if the size is odd.
pub record IsChunk (name content rest chunks : List ℕ) : Type 0 where
  pub size : List ℕ
  pub padding : List ℕ
  pub name_four : length name ≡ 4
  pub size_four : length size ≡ 4
  pub size_is : from_le_bytes w32 size ≡ length content
  pub odd : length padding ≡ length content % 2
  pub parts : chunks ≡ name ++ (size ++ (content ++ (padding ++ rest)))

-- so many chunks that have none of some names stand before a rest
abbrev pub Passed : (List ℕ → Bool) → ℕ → List ℕ → List ℕ → Type 0
Passed has_name zero chunks rest = chunks ≡ rest
Passed has_name (suc n) chunks rest = (name : List ℕ) × (content : List ℕ) × (after : List ℕ) × IsChunk name content after chunks × (has_name name ≡ false) × Passed has_name n after rest

abbrev pub is_data : List ℕ → Bool
is_data name = bytes_eq data_name name

abbrev pub is_format_or_data : List ℕ → Bool
is_format_or_data name = bytes_eq format_name name || bytes_eq data_name name

-- At most 33,554,432 bytes: `RIFF`, 4 bytes, `WAVE`; chunks that are passed over; the chunk of the format; chunks that
-- are passed over; and a chunk of data, of which the whole frames that are there are heard. What follows these isn't
-- judged.
pub record IsWave (bytes : List ℕ) (w : Wave) : Type 0 where
  pub few : length bytes ≤ most_file
  pub head : List ℕ
  pub chunks : List ℕ
  pub head_four : length head ≡ 4
  pub parts : bytes ≡ codes "RIFF" ++ (head ++ (codes "WAVE" ++ chunks))
  pub count : ℕ
  pub from_format : List ℕ
  pub passed : Passed is_format_or_data count chunks from_format
  pub format : List ℕ
  pub behind : List ℕ
  pub format_chunk : IsChunk format_name format behind from_format
  pub format_is : is_format format ≡ true
  pub data_count : ℕ
  pub from_data : List ℕ
  pub data_passed : Passed is_data data_count behind from_data
  pub size : List ℕ
  pub sounding : List ℕ
  pub size_four : length size ≡ 4
  pub data_parts : from_data ≡ data_name ++ (size ++ sounding)
  pub heard : wave_of format (take (from_le_bytes w32 size) sounding) ≡ Some w
