-- Out.ar, ReplaceOut and Out.kr: what is written onto buses.
use Rattle.std.specs.Prelude.{ℕ, ◌+◌, ◌==◌, cond, List, Option, Some, None, ℤ, pos, ◌+ℤ◌, slice_index_or, slice_set}
use Rattle.sn_ports.specs.Limits.{block_frames}
use Rattle.sn_fixed.specs.Fixed.{sat}
use Rattle.sn_mem.specs.Blocks.{table}
use Rattle.sn_mem.specs.Buses.{AudioBus, ControlBus, silent, resting, heard}
use Rattle.sn_io.specs.Channels.{audio_channel, control_channel, channels, signals}

-- Out.ar: a signal is added to what the bus holds in block b, and the bus is marked written. A bus that was not written
-- in this block holds 0 there: it is overwritten. A sample of a signal has 32 bits, so the inner sat leaves it as it
-- is.
abbrev pub mixed : ℕ → AudioBus → List ℤ → AudioBus
mixed b bus signal = record { written = b + 1; samples = table (λ k. sat (heard b bus k +ℤ sat (slice_index_or signal k (pos 0)))) block_frames }

-- ReplaceOut: a signal takes the place of what the bus holds, and the bus is marked written. A sample has 32 bits, so
-- sat leaves it as it is.
abbrev pub replaced : ℕ → AudioBus → List ℤ → AudioBus
replaced b bus signal = record { written = b + 1; samples = table (λ k. sat (slice_index_or signal k (pos 0))) block_frames }

-- what units have written onto a control bus in block b
abbrev pub held : ℕ → ControlBus → ℤ
held b bus = cond (bus.written == b + 1) bus.value (pos 0)

-- Out.kr: the signal's first sample is added to what units have written onto the bus in block b, and the bus is marked
-- written.
abbrev pub control_mixed : ℕ → ControlBus → List ℤ → ControlBus
control_mixed b bus signal = record { written = b + 1; value = sat (held b bus +ℤ slice_index_or signal 0 (pos 0)) }

-- the bus of a number is changed, if there is one
abbrev pub change_audio : (AudioBus → List ℤ → AudioBus) → List AudioBus → Option ℕ → List ℤ → List AudioBus
change_audio change buses None signal = buses
change_audio change buses (Some n) signal = slice_set buses n (change (slice_index_or buses n silent) signal)

abbrev pub change_control : (ControlBus → List ℤ → ControlBus) → List ControlBus → Option ℕ → List ℤ → List ControlBus
change_control change buses None signal = buses
change_control change buses (Some n) signal = slice_set buses n (change (slice_index_or buses n resting) signal)

-- by all channels
abbrev pub audio_outputs : (AudioBus → List ℤ → AudioBus) → List (List ℤ) → List AudioBus → List AudioBus
audio_outputs change inputs buses = channels (λ bs i signal. change_audio change bs (audio_channel inputs i) signal) inputs (signals inputs) buses

abbrev pub control_outputs : (ControlBus → List ℤ → ControlBus) → List (List ℤ) → List ControlBus → List ControlBus
control_outputs change inputs buses = channels (λ bs i signal. change_control change bs (control_channel inputs i) signal) inputs (signals inputs) buses
