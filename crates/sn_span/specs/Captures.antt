-- What the capture of a block writes: a copy of the sound of its outputs.
use Rattle.std.specs.Prelude.{◌≡◌, ◌⊎◌, ◌≤◌, ℕ, ◌+◌, ◌*◌, ◌==◌, cond, List, [], ◌∷◌, ◌++◌, length, slice_index, slice_index_or}
use Rattle.std.specs.List.{All}
use Rattle.sn_mem.specs.Layout.{audio_bus_words}
use Rattle.sn_ports.specs.Limits.{most_channels, block_frames}
use Rattle.sn_mem.specs.declared.extents.Extent.{Extent}
use Rattle.sn_mem.specs.declared.extents.Foot.{Foot}
use Rattle.sn_mem.specs.Words.{MayRead, MayWrite}
use Rattle.sn_mem.specs.Blocks.{put, samples_at, table}
use Rattle.sn_mem.specs.Buses.{AudioBus}

-- the audio bus whose words are those of an extent
abbrev pub bus_at : List ℕ → Extent → AudioBus
bus_at words e = record { written = slice_index words e.at; samples = samples_at words (e.at + 1) }

-- what stands for an extent that is not there
abbrev pub no_extent : Extent
no_extent = record { at = 0; len = 0 }

-- an output by its number
abbrev pub output_at : List Extent → ℕ → Extent
output_at outputs c = slice_index_or outputs c no_extent

-- audio buses, no more than a sound has channels
pub record AreOutputs (outputs : List Extent) : Type 0 where
  pub few : length outputs ≤ most_channels
  pub buses : All (λ e. e.len ≡ audio_bus_words) outputs

-- the word of an audio bus at a frame of block b: 0 if the bus was not written in this block
abbrev pub heard_word : ℕ → List ℕ → Extent → ℕ → ℕ
heard_word b words e frame = cond (slice_index words e.at == b + 1) (slice_index words (e.at + 1 + frame)) 0

-- a word of each for each frame, one bus after the other
abbrev pub heard_words : ℕ → List ℕ → List Extent → List ℕ
heard_words b words [] = []
heard_words b words (e ∷ es) = table (heard_word b words e) block_frames ++ heard_words b words es

-- what a capture makes of words: those of the sound of block b stand from a place on
abbrev pub captured : List Extent → ℕ → ℕ → List ℕ → List ℕ
captured outputs at b words = put words at (heard_words b words outputs)

-- none of the n words from a place on is one of the extent
abbrev pub IsBeside : Extent → ℕ → ℕ → Type 0
IsBeside e at n = (e.at + e.len ≤ at) ⊎ (at + n ≤ e.at)

-- a foot has what a capture touches: it may read audio buses, and write the words from a place on, which are none of
-- theirs
pub record CanCapture (foot : Foot) (outputs : List Extent) (at : ℕ) : Type 0 where
  pub buses : All (λ e. e.len ≡ audio_bus_words) outputs
  pub reads : All (λ e. MayRead foot e.at audio_bus_words) outputs
  pub writes : MayWrite foot at (block_frames * length outputs)
  pub beside : All (λ e. IsBeside e at (block_frames * length outputs)) outputs
