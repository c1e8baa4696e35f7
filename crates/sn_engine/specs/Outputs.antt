-- The sound of a block: its frames, of the first audio buses.
use Rattle.std.specs.Prelude.{ℕ, zero, suc, ◌+◌, ◌*◌, ℤ, List, [], ◌++◌, slice_index, slice_index_or}
use Rattle.sn_ports.specs.Limits.{block_frames}
use Rattle.sn_mem.specs.Blocks.{sample_in, table}
use Rattle.sn_mem.specs.Buses.{heard, silent}
use Rattle.sn_pcm.specs.declared.settings.Settings.{Settings}
use Rattle.sn_pcm.specs.Pcm.{pcm}
use Rattle.sn_quiet.specs.Walks.{walks}
use Rattle.sn_world.specs.World.{World}

-- a frame of the sound of block b: the samples of the first audio buses; a bus that was not written in this block gives
-- 0
abbrev pub frame_of : ℕ → ℕ → World → ℕ → List ℤ
frame_of channels b w k = table (λ c. heard b (slice_index_or w.audio_buses c silent) k) channels

-- the first frames
unfoldable pub frames_of : ℕ → ℕ → World → ℕ → List ℤ
frames_of channels b w zero = []
frames_of channels b w (suc k) = frames_of channels b w k ++ frame_of channels b w k

-- the frames of block b
abbrev pub outputs : Settings → ℕ → World → List ℤ
outputs s b w = frames_of s.channels b w block_frames

-- a frame of the sound of a block out of its copy in the words from a place on: the samples of each of the first audio
-- buses, one bus after the other
abbrev pub copied_frame : ℕ → ℕ → List ℕ → ℕ → List ℤ
copied_frame channels at ws k = table (λ c. sample_in (slice_index ws (at + block_frames * c + k))) channels

unfoldable pub copied_frames : ℕ → ℕ → List ℕ → ℕ → List ℤ
copied_frames channels at ws zero = []
copied_frames channels at ws (suc k) = copied_frames channels at ws k ++ copied_frame channels at ws k

-- the bytes of the sound of n blocks from block b on, of which none is settled
unfoldable pub sounds : Settings → ℕ → ℕ → World → List ℕ
sounds s b zero w = []
sounds s b (suc n) w = sounds s b n w ++ pcm s (outputs s (b + n) (walks b (n + 1) w))
