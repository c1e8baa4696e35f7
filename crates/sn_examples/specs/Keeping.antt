-- What units on buffers and on buses make of one buffer, and of one bus, in block 0. The buffer and the bus have number
-- 0.
use Rattle.std.specs.Prelude.{ℕ, List, [], ◌∷◌, length, map, ℤ, Option, Some, None}
use Rattle.sn_mem.specs.Layout.{bus_words}
use Rattle.sn_mem.specs.Buffers.{Buffer}
use Rattle.sn_mem.specs.Buses.{AudioBus, Buses}
use Rattle.sn_def.specs.declared.kind.Kind.{Kind}
use Rattle.sn_io.specs.BufferUnits.{buffer_unit}
use Rattle.sn_io.specs.BusUnits.{bus_unit}
use Rattle.sn_examples.specs.Sounding.{now, fresh, first}

-- ---- buffers

-- a buffer of one channel with these samples, at the beginning of the pool's memory
abbrev pub holding : List ℤ → List (Option Buffer)
holding xs = Some (record { frames = length xs; channels = 1; samples = xs; extent = record { at = bus_words; len = length xs } }) ∷ []

-- the first n samples of a unit's output, if its buffer has these samples
abbrev pub read_from : List ℤ → Kind → List (List ℤ) → ℕ → List (List ℤ)
read_from xs kind inputs n = first n (buffer_unit kind now 1 (fresh kind inputs) inputs (holding xs)).outputs

abbrev pub samples_in : List (Option Buffer) → List ℤ
samples_in [] = []
samples_in (None ∷ more) = []
samples_in (Some b ∷ more) = b.samples

-- the samples of the buffer after a unit's block
abbrev pub written_to : List ℤ → Kind → List (List ℤ) → List ℤ
written_to xs kind inputs = samples_in (buffer_unit kind now 0 (fresh kind inputs) inputs (holding xs)).buffers

-- ---- buses

-- one audio bus and no control bus
abbrev pub one_bus : AudioBus → Buses
one_bus bus = record { audio = bus ∷ []; control = [] }

-- the bus, written last in the block before a number with samples
abbrev pub bus_with : ℕ → List ℤ → Buses
bus_with written xs = one_bus (record { written = written; samples = xs })

-- the first n samples of what a unit hears of the bus
abbrev pub heard_on : Buses → Kind → List (List ℤ) → ℕ → List (List ℤ)
heard_on buses kind inputs n = first n (bus_unit kind now 1 (fresh kind inputs) inputs buses).outputs

-- the buses after a unit's block
abbrev pub after_unit : Kind → List (List ℤ) → Buses → Buses
after_unit kind inputs buses = (bus_unit kind now 0 (fresh kind inputs) inputs buses).buses

-- the first n samples of each audio bus
abbrev pub on_buses : ℕ → Buses → List (List ℤ)
on_buses n buses = first n (map (λ bus. bus.samples) buses.audio)
