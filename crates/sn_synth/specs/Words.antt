-- A block of a synth, as what it does to the memory words.
use Rattle.std.specs.Prelude.{ℕ, ◌+◌, List, [], ◌++◌, Option, ℤ, if◌then◌else◌}
use Rattle.std.specs.List.{fold}
use Rattle.sn_def.specs.declared.control.Control.{Control as SynthControl}
use Rattle.sn_def.specs.declared.control.Now.{Now}
use Rattle.sn_def.specs.declared.kind.Kind.{Kind}
use Rattle.sn_def.specs.declared.unit.Unit.{Unit as UnitLine}
use Rattle.sn_def.specs.Definition.{Definition}
use Rattle.sn_def.specs.StateWords.{unit_words}
use Rattle.sn_mem.specs.declared.buffers.BufferPlace.{BufferPlace}
use Rattle.sn_mem.specs.Blocks.{window, put}
use Rattle.sn_mem.specs.Buses.{control_buses}
use Rattle.sn_io.specs.BusUnits.{is_bus_unit}
use Rattle.sn_io.specs.OverWords.{bus_unit_over}
use Rattle.sn_io.specs.BufferUnits.{is_buffer_unit}
use Rattle.sn_io.specs.BuffersOverWords.{buffer_unit_over}
use Rattle.sn_synth.specs.UnitBlocks.{inner}
use Rattle.sn_synth.specs.Synths.{control_values, input_blocks, now_of}

-- ---- units in order

-- a unit that has no buffer
abbrev pub plain_after : Kind → Now → ℕ → List ℕ → ℕ → ℕ → List (List ℤ) → List ℕ × List (List ℤ)
plain_after kind now n ws at len inputs =
    if is_bus_unit kind then bus_unit_over kind now n ws at len inputs
    else (let r = inner kind now (window ws at len) inputs in (put ws at r.0, r.1))

-- any unit
abbrev pub unit_after : Kind → Now → ℕ → List (Option BufferPlace) → List ℕ → ℕ → ℕ → List (List ℤ) → List ℕ × List (List ℤ)
unit_after kind now n places ws at len inputs =
    if is_buffer_unit kind then buffer_unit_over kind now n places ws at len inputs
    else plain_after kind now n ws at len inputs

pub record Going : Type 0 where
  pub words : List ℕ
  pub wires : List (List ℤ)
  -- where the next unit's state words begin, and its number
  pub at : ℕ
  pub number : ℕ

unfoldable pub after_unit : ℕ → ℕ → ℤ → List (Option BufferPlace) → List ℤ → Going → UnitLine → Going
after_unit rate b node places values g u =
    let len = unit_words rate u in
    let r = unit_after u.kind (now_of rate b node g.number) u.outputs places g.words g.at len (input_blocks values g.wires u.inputs) in
    record { words = r.0; wires = g.wires ++ r.1; at = g.at + len; number = g.number + 1 }

abbrev pub after_units : ℕ → ℕ → ℤ → List (Option BufferPlace) → List ℤ → List UnitLine → Going → Going
after_units rate b node places values us g = fold (after_unit rate b node places values) g us

abbrev pub begun : List ℕ → ℕ → Going
begun ws at = record { words = ws; wires = []; at = at; number = 0 }

-- the words after a synth's block, its state being the words from a place on
abbrev pub synth_words : ℕ → ℕ → ℤ → Definition → List SynthControl → List (Option BufferPlace) → ℕ → List ℕ → List ℕ
synth_words rate b node d controls places at ws = (after_units rate b node places (control_values (control_buses ws) controls) d.units (begun ws at)).words
