-- What one unit on buses or triggers makes of a block.
use Rattle.std.specs.Prelude.{ℕ, Bool, true, false, ◌||◌, List, [], ℤ}
use Rattle.sn_def.specs.declared.kind.Kind.{Kind}
use Rattle.sn_def.specs.declared.kind.Kind.TheVariants as kinds
use Rattle.sn_def.specs.declared.control.Now.{Now}
use Rattle.sn_def.specs.declared.table.Family.TheVariants as families
use Rattle.sn_def.specs.declared.table.Access.TheVariants as accesses
use Rattle.sn_def.specs.declared.table.Bank.TheVariants as banks
use Rattle.sn_def.specs.Facts.{is_of, touches}
use Rattle.sn_mem.specs.Buses.{Buses}
use Rattle.sn_io.specs.BusInputs.{audio_inputs, control_inputs}
use Rattle.sn_io.specs.BusOutputs.{mixed, replaced, control_mixed, audio_outputs, control_outputs}
use Rattle.sn_io.specs.Triggers.{trigger_block}

-- after a unit's block: its state words, the blocks that it gives, and the buses
pub record UnitBlock : Type 0 where
  pub state : List ℕ
  pub outputs : List (List ℤ)
  pub buses : Buses

-- ---- units that read or write buses

abbrev pub reads_audio : Kind → Bool
reads_audio kind = touches accesses.Read banks.Audio kind

abbrev pub reads_control : Kind → Bool
reads_control kind = touches accesses.Read banks.Control kind

abbrev pub writes_audio : Kind → Bool
writes_audio kind = touches accesses.Write banks.Audio kind

abbrev pub writes_control : Kind → Bool
writes_control kind = touches accesses.Write banks.Control kind

-- ---- units on buses, and triggers

abbrev pub is_bus_unit : Kind → Bool
is_bus_unit kind = is_of families.Bus kind || is_of families.Trigger kind

-- a unit that reads
abbrev pub giving : List ℕ → List (List ℤ) → Buses → UnitBlock
giving state outputs buses = record { state = state; outputs = outputs; buses = buses }

-- From its state words, its inputs' blocks and the buses, with so many outputs.
unfoldable pub bus_unit : Kind → Now → ℕ → List ℕ → List (List ℤ) → Buses → UnitBlock
bus_unit kinds.Inar now n state inputs buses = giving state (audio_inputs false now.block inputs n buses.audio) buses
bus_unit kinds.InFeedback now n state inputs buses = giving state (audio_inputs true now.block inputs n buses.audio) buses
bus_unit kinds.Inkr now n state inputs buses = giving state (control_inputs inputs n buses.control) buses
bus_unit kinds.Outar now n state inputs buses = giving state [] (record buses { audio = audio_outputs (mixed now.block) inputs buses.audio })
bus_unit kinds.ReplaceOut now n state inputs buses = giving state [] (record buses { audio = audio_outputs (replaced now.block) inputs buses.audio })
bus_unit kinds.Outkr now n state inputs buses = giving state [] (record buses { control = control_outputs (control_mixed now.block) inputs buses.control })
bus_unit kind now n state inputs buses = let r = trigger_block kind now state inputs in giving r.0 r.1 buses
