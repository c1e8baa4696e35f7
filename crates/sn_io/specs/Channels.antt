-- The channels of bus units.
use Rattle.std.specs.Prelude.{ℕ, zero, suc, ◌-◌, nat_lt, cond, List, length, Option, Some, None, ℤ, pos, negsuc, ◌+ℤ◌}
use Rattle.sn_ports.specs.Limits.{control_bus_count}
use Rattle.sn_mem.specs.Blocks.{block, sample}
use Rattle.sn_mem.specs.Buses.{audio_number}

-- the number of a control bus, if there is one
abbrev pub control_number : ℤ → Option ℕ
control_number (pos n) = cond (nat_lt n control_bus_count) (Some n) None
control_number (negsuc n) = None

-- The bus of channel i: its number is that of the first input, the index, and i more.
abbrev pub audio_channel : List (List ℤ) → ℕ → Option ℕ
audio_channel inputs i = audio_number (sample inputs 0 0 +ℤ pos i)

abbrev pub control_channel : List (List ℤ) → ℕ → Option ℕ
control_channel inputs i = control_number (sample inputs 0 0 +ℤ pos i)

-- What the first channels change, one after the other; the signal of channel i is the input after the index and i more.
unfoldable pub channels : {S : Type 0} → (S → ℕ → List ℤ → S) → List (List ℤ) → ℕ → S → S
channels change inputs zero s = s
channels change inputs (suc i) s = change (channels change inputs i s) i (block inputs (suc i))

-- all channels: each input but the first is one
abbrev pub signals : List (List ℤ) → ℕ
signals inputs = length inputs - 1
