-- Buffers, and the memory words that hold them.
use Rattle.std.specs.Prelude.{◌≡◌, ◌≤◌, ◌<◌, ◌+◌, ◌*◌, ◌++◌, ℕ, ℤ, List, [], ◌∷◌, map, Option, Some, None, if◌then◌else◌}
use Rattle.std.specs.Option.{option_map}
use Rattle.std.specs.List.{All}
use Rattle.sn_ports.specs.Limits.{most_channels}
use Rattle.sn_mem.specs.Layout.{bus_words}
use Rattle.sn_mem.specs.declared.extents.Extent.{Extent}
use Rattle.sn_mem.specs.declared.buffers.BufferPlace.{BufferPlace}
use Rattle.sn_mem.specs.Blocks.{window, sample_in}
use Rattle.sn_mem.specs.Words.{covers}
use Rattle.sn_mem.specs.Buses.{Buses, buses_of}

-- a buffer: its frames and the samples of each, all samples frame by frame, and where the pool keeps them
pub record Buffer : Type 0 where
  pub frames : ℕ
  pub channels : ℕ
  pub samples : List ℤ
  pub extent : Extent

-- the samples in an extent, one in each word
abbrev pub samples_of : List ℕ → Extent → List ℤ
samples_of words e = map sample_in (window words e.at e.len)

abbrev pub buffer_of : List ℕ → BufferPlace → Buffer
buffer_of words p = record { frames = p.frames; channels = p.channels; samples = samples_of words p.extent; extent = p.extent }

-- the buffers, by their numbers
unfoldable pub buffers_of : List ℕ → List (Option BufferPlace) → List (Option Buffer)
buffers_of words places = map (option_map (buffer_of words)) places

-- the buses and the buffers, which all units hear and change
pub record Resources : Type 0 where
  pub buses : Buses
  pub buffers : List (Option Buffer)

abbrev pub resources_of : List (Option BufferPlace) → List ℕ → Resources
resources_of places words = record { buses = buses_of words; buffers = buffers_of words places }

-- ---- where their words are

-- how many of the extents a word lies in
abbrev pub overlaps : ℕ → List Extent → ℕ
overlaps x [] = 0
overlaps x (e ∷ es) = (if covers e x then 1 else 0) + overlaps x es

-- the words of what is at a number, and of all buffers in the order of their numbers
abbrev pub place_extents : Option BufferPlace → List Extent
place_extents None = []
place_extents (Some p) = p.extent ∷ []

unfoldable pub live_places : List (Option BufferPlace) → List Extent
live_places [] = []
live_places (p ∷ ps) = place_extents p ++ live_places ps

-- a buffer has at least one frame and at most as many as a sample can say, 1 to 8 channels, and for each sample a word
-- after those of the buses
pub record IsPlace (p : BufferPlace) : Type 0 where
  pub frames : 1 ≤ p.frames
  pub short : p.frames < 2147483648
  pub channels : 1 ≤ p.channels
  pub few : p.channels ≤ most_channels
  pub size : p.extent.len ≡ p.frames * p.channels
  pub behind : bus_words ≤ p.extent.at

abbrev pub MayBePlace : Option BufferPlace → Type 0
MayBePlace None = Unit {0}
MayBePlace (Some p) = IsPlace p

-- no word is that of two buffers, nor that of a buffer and of the state
pub record AreApart (state : Extent) (places : List (Option BufferPlace)) : Type 0 where
  pub each : All MayBePlace places
  pub apart : (x : ℕ) → overlaps x (state ∷ live_places places) ≤ 1
