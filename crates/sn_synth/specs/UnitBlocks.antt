-- What one unit makes of a block.
use Rattle.std.specs.Prelude.{ℕ, Bool, ◌||◌, List, ℤ, Option, if◌then◌else◌}
use Rattle.sn_def.specs.declared.kind.Kind.{Kind}
use Rattle.sn_def.specs.declared.control.Now.{Now}
use Rattle.sn_mem.specs.Buses.{Buses}
use Rattle.sn_mem.specs.Buffers.{Buffer, Resources}
use Rattle.sn_gen.specs.Generators.{is_generator, generator}
use Rattle.sn_filt.specs.Filters.{is_filter, filter}
use Rattle.sn_io.specs.BusUnits.{UnitBlock, giving, is_bus_unit, bus_unit}
use Rattle.sn_io.specs.BufferUnits.{BufferBlock, is_buffer_unit, buffer_unit}

-- a generator, a unit of arithmetic or a filter hears and writes no bus
abbrev pub is_inner : Kind → Bool
is_inner kind = is_generator kind || is_filter kind

unfoldable pub inner : Kind → Now → List ℕ → List (List ℤ) → List ℕ × List (List ℤ)
inner kind now state inputs = if is_generator kind then generator kind now state inputs else filter kind now state inputs

abbrev pub inner_block : Kind → Now → List ℕ → List (List ℤ) → Buses → UnitBlock
inner_block kind now state inputs buses = let r = inner kind now state inputs in giving r.0 r.1 buses

-- any of them, or a unit on buses
abbrev pub is_plain : Kind → Bool
is_plain kind = is_bus_unit kind || is_inner kind

abbrev pub plain_block : Kind → Now → ℕ → List ℕ → List (List ℤ) → Buses → UnitBlock
plain_block kind now n state inputs buses = if is_bus_unit kind then bus_unit kind now n state inputs buses else inner_block kind now state inputs buses

-- a kind of unit that a synth can run
abbrev pub is_played : Kind → Bool
is_played kind = is_buffer_unit kind || is_plain kind

-- after a unit's block: its state words, the blocks that it gives, and the buses and buffers
pub record UnitEffect : Type 0 where
  pub state : List ℕ
  pub outputs : List (List ℤ)
  pub resources : Resources

-- a unit on buffers leaves the buses, and any other the buffers
abbrev pub on_buffers : Buses → BufferBlock → UnitEffect
on_buffers buses r = record { state = r.state; outputs = r.outputs; resources = record { buses = buses; buffers = r.buffers } }

abbrev pub on_buses : List (Option Buffer) → UnitBlock → UnitEffect
on_buses buffers r = record { state = r.state; outputs = r.outputs; resources = record { buses = r.buses; buffers = buffers } }

-- a unit of a kind with so many outputs, from its state words, its inputs' blocks, the buses and the buffers
abbrev pub unit_block : Kind → Now → ℕ → List ℕ → List (List ℤ) → Resources → UnitEffect
unit_block kind now n state inputs r =
    if is_buffer_unit kind then on_buffers r.buses (buffer_unit kind now n state inputs r.buffers)
    else on_buses r.buffers (plain_block kind now n state inputs r.buses)
