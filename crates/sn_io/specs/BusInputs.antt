-- In.ar, InFeedback and In.kr: what is read from buses.
use Rattle.std.specs.Prelude.{ℕ, ◌+◌, ◌==◌, nat_lt, Bool, ◌&&◌, ◌||◌, cond, List, Option, Some, None, ℤ, pos, replicate, slice_index_or}
use Rattle.sn_ports.specs.Limits.{block_frames}
use Rattle.sn_mem.specs.Blocks.{table}
use Rattle.sn_mem.specs.Buses.{AudioBus, ControlBus, silent, resting}
use Rattle.sn_io.specs.Channels.{audio_channel, control_channel}

-- Whether an audio bus is heard in block b, by the number that it keeps: In.ar hears what was written in this block,
-- and InFeedback also what was written in the block before. Before block 0 there is no block.
abbrev pub hears : Bool → ℕ → ℕ → Bool
hears feedback b written = written == b + 1 || (feedback && nat_lt 0 b && written == b)

-- the samples of the bus if it is heard, else 0
abbrev pub heard_block : Bool → ℕ → AudioBus → List ℤ
heard_block feedback b bus = table (λ k. cond (hears feedback b bus.written) (slice_index_or bus.samples k (pos 0)) (pos 0)) block_frames

-- from the bus of a number; 0 if there is none
abbrev pub audio_in : Bool → ℕ → List AudioBus → Option ℕ → List ℤ
audio_in feedback b buses None = replicate block_frames (pos 0)
audio_in feedback b buses (Some n) = heard_block feedback b (slice_index_or buses n silent)

-- the value of a control bus in each frame
abbrev pub control_in : List ControlBus → Option ℕ → List ℤ
control_in buses None = replicate block_frames (pos 0)
control_in buses (Some n) = replicate block_frames (slice_index_or buses n resting).value

-- so many channels
abbrev pub audio_inputs : Bool → ℕ → List (List ℤ) → ℕ → List AudioBus → List (List ℤ)
audio_inputs feedback b inputs n buses = table (λ i. audio_in feedback b buses (audio_channel inputs i)) n

abbrev pub control_inputs : List (List ℤ) → ℕ → List ControlBus → List (List ℤ)
control_inputs inputs n buses = table (λ i. control_in buses (control_channel inputs i)) n
