-- Where the words of the buffers are.
use Rattle.std.specs.Prelude.{◌≡◌, ◌≤◌, ◌<◌, ◌*◌, ◌++◌, List, [], ◌∷◌, length, Option, Some, None}
use Rattle.sn_ports.specs.Limits.{buffer_count, most_channels}
use Rattle.sn_mem.specs.declared.extents.Extent.{Extent}
use Rattle.sn_mem.specs.Buffers.{Buffer}
use Rattle.sn_mem.specs.declared.buffers.BufferPlace.{BufferPlace}
use Rattle.sn_pool.specs.Pools.{LiesIn}

-- where the pool keeps the words of a buffer, and of all buffers in the order of their numbers
abbrev pub buffer_extents : Option Buffer → List Extent
buffer_extents None = []
buffer_extents (Some b) = b.extent ∷ []

unfoldable pub live_buffers : List (Option Buffer) → List Extent
live_buffers [] = []
live_buffers (b ∷ bs) = buffer_extents b ++ live_buffers bs

-- a buffer has at least one frame and at most as many as a reply can say, 1 to 8 channels, and a word of the region for
-- each sample
pub record IsBuffer (region : Extent) (p : BufferPlace) : Type 0 where
  pub frames : 1 ≤ p.frames
  pub short : p.frames < 2147483648
  pub channels : 1 ≤ p.channels
  pub few : p.channels ≤ most_channels
  pub size : p.extent.len ≡ p.frames * p.channels
  pub within : LiesIn region p.extent

abbrev pub MayBeBuffer : Extent → Option BufferPlace → Type 0
MayBeBuffer region None = Unit {0}
MayBeBuffer region (Some p) = IsBuffer region p

unfoldable pub AreEach : Extent → List (Option BufferPlace) → Type 0
AreEach region [] = Unit {0}
AreEach region (p ∷ ps) = MayBeBuffer region p × AreEach region ps

-- at each of the 1,024 numbers there is a buffer or none
pub record AreBuffers (region : Extent) (places : List (Option BufferPlace)) : Type 0 where
  pub number : length places ≡ buffer_count
  pub each : AreEach region places
