-- What one synth makes of a block.
use Rattle.std.specs.Prelude.{ℕ, ◌+◌, List, [], ◌++◌, ℤ, pos, Option, Some, None, map, replicate, slice_index_or}
use Rattle.std.specs.List.{fold}
use Rattle.sn_ports.specs.Limits.{block_frames}
use Rattle.sn_def.specs.declared.control.Control.{Control as SynthControl}
use Rattle.sn_def.specs.declared.control.Now.{Now}
use Rattle.sn_def.specs.declared.unit.Input.{Input}
use Rattle.sn_def.specs.declared.unit.Input.TheVariants.{Literal, Control, Wire}
use Rattle.sn_def.specs.declared.unit.Unit.{Unit as UnitLine}
use Rattle.sn_def.specs.Definition.{Definition}
use Rattle.sn_def.specs.StateWords.{unit_words}
use Rattle.sn_mem.specs.Blocks.{block, window, put}
use Rattle.sn_mem.specs.Buses.{ControlBus, resting}
use Rattle.sn_mem.specs.Buffers.{Resources}
use Rattle.sn_synth.specs.UnitBlocks.{unit_block}

-- ---- controls and inputs

-- the value of a control bus that is followed, or else the own value
abbrev pub followed : List ControlBus → ℤ → Option ℕ → ℤ
followed buses own None = own
followed buses own (Some n) = (slice_index_or buses n resting).value

abbrev pub control_value : List ControlBus → SynthControl → ℤ
control_value buses control = followed buses control.value control.bus

abbrev pub control_values : List ControlBus → List SynthControl → List ℤ
control_values buses controls = map (control_value buses) controls

-- the block of an input: literals and controls stay the same for all frames
abbrev pub input_block : List ℤ → List (List ℤ) → Input → List ℤ
input_block values wires (Literal v) = replicate block_frames v
input_block values wires (Control k) = replicate block_frames (slice_index_or values k (pos 0))
input_block values wires (Wire k) = block wires k

abbrev pub input_blocks : List ℤ → List (List ℤ) → List Input → List (List ℤ)
input_blocks values wires inputs = map (input_block values wires) inputs

-- ---- units in order

-- where a synth stands between two units
pub record Playing : Type 0 where
  pub resources : Resources
  -- the state words of all units, one unit's after the other's
  pub state : List ℕ
  -- the outputs of the units so far
  pub wires : List (List ℤ)
  -- where the next unit's state words begin, and its number
  pub place : ℕ
  pub number : ℕ

abbrev pub now_of : ℕ → ℕ → ℤ → ℕ → Now
now_of rate b node number = record { rate = rate; block = b; node = node; unit = number }

-- the next unit: it has its own part of the state words, and its outputs are the next wires
unfoldable pub play_unit : ℕ → ℕ → ℤ → List ℤ → Playing → UnitLine → Playing
play_unit rate b node values p u =
    let words = unit_words rate u in
    let r = unit_block u.kind (now_of rate b node p.number) u.outputs (window p.state p.place words) (input_blocks values p.wires u.inputs) p.resources in
    record { resources = r.resources; state = put p.state p.place r.state; wires = p.wires ++ r.outputs; place = p.place + words; number = p.number + 1 }

abbrev pub play_units : ℕ → ℕ → ℤ → List ℤ → List UnitLine → Playing → Playing
play_units rate b node values us p = fold (play_unit rate b node values) p us

abbrev pub before_units : Resources → List ℕ → Playing
before_units resources state = record { resources = resources; state = state; wires = []; place = 0; number = 0 }

-- At a rate, in block b, the synth with a node's id: each control that follows a control bus is read from it once, and
-- then the units run in order.
abbrev pub synth_block : ℕ → ℕ → ℤ → Definition → List SynthControl → Resources → List ℕ → Playing
synth_block rate b node d controls resources state = play_units rate b node (control_values resources.buses.control controls) d.units (before_units resources state)
