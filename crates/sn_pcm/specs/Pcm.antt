-- Samples as PCM bytes of a WAV file.
use Rattle.std.specs.Prelude.{◌≡◌, ℕ, ◌*◌, ◌/◌, ◌==◌, ℤ, pos, negsuc, List, ◌++◌, length, take, cond}
use Rattle.std.specs.List.{flat_map}
use Rattle.std.specs.Int.{w16, w32, to_le_bytes, cast_unsigned, int_div_euclid, int_min, int_max}
use Rattle.sn_pcm.specs.declared.settings.Settings.{Settings}
use Rattle.sn_pcm.specs.Sound.{header_bytes}

-- floor (x / 512) clamped to 16 bits, as two bytes, little-endian
abbrev pub bytes_16 : ℤ → List ℕ
bytes_16 x = to_le_bytes w16 (cast_unsigned w16 (int_max (negsuc 32767) (int_min (pos 32767) (int_div_euclid x (pos 512)))))

-- floor (x / 2) clamped to 24 bits, as three bytes, little-endian
abbrev pub bytes_24 : ℤ → List ℕ
bytes_24 x = take 3 (to_le_bytes w32 (cast_unsigned w32 (int_max (negsuc 8388607) (int_min (pos 8388607) (int_div_euclid x (pos 2))))))

unfoldable pub sample_bytes : Settings → ℤ → List ℕ
sample_bytes s x = cond (s.bits == 16) (bytes_16 x) (bytes_24 x)

-- The samples of the frames, each frame's in the order of the channels.
unfoldable pub pcm : Settings → List ℤ → List ℕ
pcm s samples = flat_map (sample_bytes s) samples

-- a whole WAV file, of the bytes of its samples
abbrev pub wav : Settings → List ℕ → List ℕ
wav s bytes = header_bytes s (length bytes) ++ bytes

-- Each sample takes as many bytes as its bits say.
abbrev pub HasPcmLength : Settings → List ℤ → Type 0
HasPcmLength s samples = length (pcm s samples) ≡ length samples * (s.bits / 8)
