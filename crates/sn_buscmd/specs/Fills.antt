-- Fills of control buses and of samples.
use Rattle.std.specs.Prelude.{ℤ, nat_abs, List, replicate}
use Rattle.sn_fills.specs.declared.fill.Fill.{Fill}
use Rattle.sn_mem.specs.Buses.{ControlBus}
use Rattle.sn_world.specs.declared.repetition.BusFill.{BusFill}
use Rattle.sn_world.specs.declared.buffer_repetition.SampleFill.{SampleFill}
use Rattle.sn_world.specs.Buses.{with_values}
use Rattle.sn_world.specs.BufferNumbers.{set_from}

-- the places of a repetition, and their value
abbrev pub bus_places : BusFill → Fill
bus_places r = record { first = nat_abs r.bus; count = r.count; value = r.value }

abbrev pub sample_places : SampleFill → Fill
sample_places r = record { first = nat_abs r.first; count = r.count; value = r.value }

-- buses and samples after a fill
abbrev pub fill_buses : Fill → List ControlBus → List ControlBus
fill_buses f buses = with_values buses f.first (replicate f.count f.value)

abbrev pub fill_samples : Fill → List ℤ → List ℤ
fill_samples f samples = set_from f.first (replicate f.count f.value) samples
