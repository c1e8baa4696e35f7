-- What units on buses and buffers need of a foot.
use Rattle.std.specs.Prelude.{◌≡◌, ◌<◌, ◌≤◌, ◌+◌, ◌*◌, ℕ, List, ℤ, Option, Some, None, IfSome, true, length, slice_index_or}
use Rattle.sn_def.specs.declared.kind.Kind.{Kind}
use Rattle.sn_mem.specs.declared.buffers.BufferPlace.{BufferPlace}
use Rattle.sn_mem.specs.declared.extents.Foot.{Foot}
use Rattle.sn_mem.specs.Words.{MayWrite, MayRead}
use Rattle.sn_mem.specs.Layout.{audio_place, control_place}
use Rattle.sn_io.specs.Channels.{audio_channel, control_channel}
use Rattle.sn_io.specs.declared.between.Point.{Point}
use Rattle.sn_io.specs.BusUnits.{reads_audio, reads_control, writes_audio, writes_control}
use Rattle.sn_io.specs.BufferUnits.{chosen, reads_buffer, writes_buffer}

-- the words of a bus may be read, or written, if there is one
abbrev pub MayReadAudio : Foot → Option ℕ → Type 0
MayReadAudio f None = Unit {0}
MayReadAudio f (Some n) = MayRead f (audio_place n).at (audio_place n).len

abbrev pub MayReadControl : Foot → Option ℕ → Type 0
MayReadControl f None = Unit {0}
MayReadControl f (Some n) = MayRead f (control_place n).at (control_place n).len

abbrev pub MayWriteAudio : Foot → Option ℕ → Type 0
MayWriteAudio f None = Unit {0}
MayWriteAudio f (Some n) = MayWrite f (audio_place n).at (audio_place n).len

abbrev pub MayWriteControl : Foot → Option ℕ → Type 0
MayWriteControl f None = Unit {0}
MayWriteControl f (Some n) = MayWrite f (control_place n).at (control_place n).len

-- the buses of the channels of a unit with so many outputs
pub record MayReach (kind : Kind) (f : Foot) (n : ℕ) (inputs : List (List ℤ)) : Type 0 where
  pub hears : reads_audio kind ≡ true → (i : ℕ) → i < n → MayReadAudio f (audio_channel inputs i)
  pub reads : reads_control kind ≡ true → (i : ℕ) → i < n → MayReadControl f (control_channel inputs i)
  pub writes : writes_audio kind ≡ true → (i : ℕ) → i + 1 < length inputs → MayWriteAudio f (audio_channel inputs i)
  pub sets : writes_control kind ≡ true → (i : ℕ) → i + 1 < length inputs → MayWriteControl f (control_channel inputs i)

-- ---- buffers

-- a buffer has at least one frame and at most as many as a sample can say, and a word for each of its samples
pub record IsWhole (p : BufferPlace) : Type 0 where
  pub some : 1 ≤ p.frames
  pub short : p.frames < 2147483648
  pub size : p.extent.len ≡ p.frames * p.channels

abbrev pub IsWholeIfSome : Option BufferPlace → Type 0
IsWholeIfSome None = Unit {0}
IsWholeIfSome (Some p) = IsWhole p

-- its words may be read, or written, if there is one
abbrev pub MayReadBuffer : Foot → Option BufferPlace → Type 0
MayReadBuffer f None = Unit {0}
MayReadBuffer f (Some p) = MayRead f p.extent.at p.extent.len

abbrev pub MayWriteBuffer : Foot → Option BufferPlace → Type 0
MayWriteBuffer f None = Unit {0}
MayWriteBuffer f (Some p) = MayWrite f p.extent.at p.extent.len

-- the buffer that a unit's index names
pub record MayReachBuffer (kind : Kind) (f : Foot) (inputs : List (List ℤ)) (places : List (Option BufferPlace)) : Type 0 where
  pub whole : IsWholeIfSome (chosen inputs places)
  pub reads : reads_buffer kind ≡ true → MayReadBuffer f (chosen inputs places)
  pub writes : writes_buffer kind ≡ true → MayWriteBuffer f (chosen inputs places)

-- each of some frames lies in a buffer with so many, if there is one
abbrev pub AreWithin : Option ℕ → List (Option ℕ) → Type 0
AreWithin None frames = Unit {0}
AreWithin (Some n) frames = (k : ℕ) → IfSome (slice_index_or frames k None) (λ i. i < n)

-- a point lies between frames of a buffer with so many
pub record LiesWithin (frames : ℕ) (p : Point) : Type 0 where
  pub frame : p.frame < frames
  pub next : p.next < frames
  pub part : p.part < 16777216

-- and so does each of some points
abbrev pub AreBetween : Option ℕ → List (Option Point) → Type 0
AreBetween None points = Unit {0}
AreBetween (Some n) points = (k : ℕ) → IfSome (slice_index_or points k None) (LiesWithin n)
