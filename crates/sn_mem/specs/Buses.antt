-- Buses, and the memory words that hold them.
use Rattle.std.specs.Prelude.{ℕ, ◌+◌, ◌==◌, nat_lt, List, [], Option, Some, None, ℤ, pos, negsuc, cond, slice_index, slice_index_or}
use Rattle.sn_ports.specs.Limits.{audio_bus_count, control_bus_count}
use Rattle.sn_mem.specs.Layout.{audio_place, control_place}
use Rattle.sn_mem.specs.Blocks.{table, sample_in, samples_at}

-- an audio bus: the number of the last block that wrote it plus 1, or 0, and the samples of a block
pub record AudioBus : Type 0 where
  pub written : ℕ
  pub samples : List ℤ

-- a control bus: the number of the last block in which a synth wrote it plus 1, or 0, and its value
pub record ControlBus : Type 0 where
  pub written : ℕ
  pub value : ℤ

-- the audio buses and the control buses, by their numbers
pub record Buses : Type 0 where
  pub audio : List AudioBus
  pub control : List ControlBus

-- what is read if there is no such bus
abbrev pub silent : AudioBus
silent = record { written = 0; samples = [] }

abbrev pub resting : ControlBus
resting = record { written = 0; value = pos 0 }

-- the sample at frame k of an audio bus in block b: 0 if the bus was not written in this block
abbrev pub heard : ℕ → AudioBus → ℕ → ℤ
heard b bus k = cond (bus.written == b + 1) (slice_index_or bus.samples k (pos 0)) (pos 0)

-- the number of an audio bus, if there is one
abbrev pub audio_number : ℤ → Option ℕ
audio_number (pos n) = cond (nat_lt n audio_bus_count) (Some n) None
audio_number (negsuc n) = None

-- bus n, as words hold it
abbrev pub audio_bus : List ℕ → ℕ → AudioBus
audio_bus words n = record { written = slice_index words (audio_place n).at; samples = samples_at words ((audio_place n).at + 1) }

abbrev pub control_bus : List ℕ → ℕ → ControlBus
control_bus words n = record { written = slice_index words (control_place n).at; value = sample_in (slice_index words ((control_place n).at + 1)) }

-- all audio buses
unfoldable pub audio_buses : List ℕ → List AudioBus
audio_buses words = table (audio_bus words) audio_bus_count

-- all control buses
unfoldable pub control_buses : List ℕ → List ControlBus
control_buses words = table (control_bus words) control_bus_count

abbrev pub buses_of : List ℕ → Buses
buses_of words = record { audio = audio_buses words; control = control_buses words }
