-- The places of buses in the memory words.
use Rattle.std.specs.Prelude.{ℕ, ◌+◌, ◌*◌}
use Rattle.sn_ports.specs.Limits.{block_frames, audio_bus_count, control_bus_count}
use Rattle.sn_mem.specs.declared.extents.Extent.{Extent}

-- the words of an audio bus: the number of the last block that wrote it plus 1, then the samples of a block
abbrev pub audio_bus_words : ℕ
audio_bus_words = 1 + block_frames

-- the words of a control bus: the number of the last block in which a synth wrote it plus 1, then its value
abbrev pub control_bus_words : ℕ
control_bus_words = 2

-- the words of all audio buses, after which the control buses stand
abbrev pub audio_words : ℕ
audio_words = audio_bus_count * audio_bus_words

-- the words of all buses, after which the pool's region begins
abbrev pub bus_words : ℕ
bus_words = audio_words + control_bus_count * control_bus_words

abbrev pub audio_place : ℕ → Extent
audio_place n = record { at = audio_bus_words * n; len = audio_bus_words }

abbrev pub control_place : ℕ → Extent
control_place n = record { at = audio_words + control_bus_words * n; len = control_bus_words }

-- how many lanes there may be, and the words of so many
abbrev pub most_lanes : ℕ
most_lanes = 4096

abbrev pub lane_words : ℕ
lane_words = most_lanes * audio_bus_words

-- lane k of those that begin at a word: like an audio bus
abbrev pub lane_place : ℕ → ℕ → Extent
lane_place first k = record { at = first + audio_bus_words * k; len = audio_bus_words }
