-- What the parts of a WAV file in memory stand for.
use Rattle.std.specs.Prelude.{◌≡◌, ◌≤◌, ◌⊎◌, ◌*◌, ◌/◌, ℕ, true, List, length, Option, Some, None}
use Rattle.sn_ports.specs.Limits.{most_channels}
use Rattle.sn_shelf.specs.declared.waves.Recording.{Recording}
use Rattle.sn_shelf.specs.declared.waves.Format.{Format}
use Rattle.sn_shelf.specs.Waves.{Wave, samples_of, channels_in, bits_in, align_in, is_format}

abbrev pub heard : Recording → Wave
heard r = record { channels = r.channels; samples = samples_of (r.frames * r.channels) r.width r.sounding.now }

-- 1 to 8 channels of 2 or 3 bytes
pub record IsPlayable (f : Format) : Type 0 where
  pub some_channels : 1 ≤ f.channels
  pub few_channels : f.channels ≤ most_channels
  pub width : (f.width ≡ 2) ⊎ (f.width ≡ 3)

-- what the bytes of a format say
pub record IsSaid (f : Format) (bytes : List ℕ) : Type 0 where
  pub format : is_format bytes ≡ true
  pub channels : f.channels ≡ channels_in bytes
  pub width : f.width ≡ bits_in bytes / 8
  pub align : f.channels * f.width ≡ align_in bytes

-- one frame or more of 1 to 8 channels, whose samples of 2 or 3 bytes are there
pub record IsWhole (r : Recording) : Type 0 where
  pub some_channels : 1 ≤ r.channels
  pub few_channels : r.channels ≤ most_channels
  pub width : (r.width ≡ 2) ⊎ (r.width ≡ 3)
  pub some_frames : 1 ≤ r.frames
  pub there : r.frames * r.channels * r.width ≤ length r.sounding.now

-- what was found, seen by view, is what is to be found
abbrev pub Finds : {X Y : Type 0} → (X → Y) → Option X → Option Y → Type 0
Finds view (Some x) wanted = wanted ≡ Some (view x)
Finds view None wanted = wanted ≡ None
