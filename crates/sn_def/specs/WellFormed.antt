-- What holds of each definition that some text defines.
use Rattle.std.specs.Prelude.{◌≡◌, ◌+◌, ◌<◌, ◌≤◌, ◌==◌, ℕ, ℤ, pos, negsuc, ◌≤ℤ◌, List, [], ◌∷◌, length, if◌then◌else◌}
use Rattle.sn_ports.specs.Limits.{most_elements, most_wires, most_units}
use Rattle.sn_def.specs.declared.table.Mark.{Mark}
use Rattle.sn_def.specs.declared.table.Mark.TheVariants.{Signal, Index, Constant, Longest}
use Rattle.sn_def.specs.declared.arrays.Run.{Run}
use Rattle.sn_def.specs.declared.unit.Input.{Input}
use Rattle.sn_def.specs.declared.unit.Input.TheVariants.{Literal, Control, Wire}
use Rattle.sn_def.specs.declared.unit.Unit.{Unit as UnitLine}
use Rattle.sn_def.specs.Units.{row_of}
use Rattle.sn_def.specs.Definition.{Definition}
use Rattle.sn_def.specs.Reading.{mark_at}

-- a value of 32 bits with its sign
pub record IsSample (v : ℤ) : Type 0 where
  pub low : negsuc 2147483647 ≤ℤ v
  pub high : v ≤ℤ pos 2147483647

-- milliseconds of a longest delay
pub record IsDelay (v : ℤ) : Type 0 where
  pub low : pos 0 ≤ℤ v
  pub high : v ≤ℤ pos 60000

-- an input that its mark allows, if there are so many controls and so many wires of earlier lines
abbrev pub IsAllowed : Mark → ℕ → ℕ → Input → Type 0
IsAllowed Signal controls wires (Literal v) = IsSample v
IsAllowed Signal controls wires (Control k) = k < controls
IsAllowed Signal controls wires (Wire k) = k < wires
IsAllowed Index controls wires (Literal v) = IsSample v
IsAllowed Index controls wires (Control k) = k < controls
IsAllowed Index controls wires (Wire k) = ⊥
IsAllowed Constant controls wires (Literal v) = IsSample v
IsAllowed Constant controls wires (Control k) = ⊥
IsAllowed Constant controls wires (Wire k) = ⊥
IsAllowed Longest controls wires (Literal v) = IsDelay v
IsAllowed Longest controls wires (Control k) = ⊥
IsAllowed Longest controls wires (Wire k) = ⊥

-- inputs from number i on
abbrev pub AreAllowed : List Mark → ℕ → ℕ → ℕ → List Input → Type 0
AreAllowed marks controls wires i [] = Unit {0}
AreAllowed marks controls wires i (x ∷ xs) = IsAllowed (mark_at marks i) controls wires x × AreAllowed marks controls wires (i + 1) xs

-- a unit line with as many inputs and outputs as the row of its kind says, each input allowed
pub record UnitFits (controls wires : ℕ) (u : UnitLine) : Type 0 where
  pub fewest_inputs : length (row_of u.kind).inputs + (if (row_of u.kind).signals == 0 then 0 else 1) ≤ length u.inputs
  pub most_inputs : length u.inputs ≤ length (row_of u.kind).inputs + (row_of u.kind).signals
  pub fewest_outputs : (row_of u.kind).least ≤ u.outputs
  pub most_outputs : u.outputs ≤ (row_of u.kind).most
  pub inputs : AreAllowed (row_of u.kind).inputs controls wires 0 u.inputs

-- unit lines before which so many wires stand
abbrev pub UnitsFit : ℕ → ℕ → List UnitLine → Type 0
UnitsFit controls wires [] = Unit {0}
UnitsFit controls wires (u ∷ us) = UnitFits controls wires u × UnitsFit controls (wires + u.outputs) us

-- the wires of unit lines
abbrev pub outputs_of : List UnitLine → ℕ
outputs_of [] = 0
outputs_of (u ∷ us) = u.outputs + outputs_of us

-- arrays of so many controls, from this control on: each has 1 to 64 controls, which come after those of the array
-- before it
abbrev pub RunsFit : ℕ → ℕ → List Run → Type 0
RunsFit from controls [] = from ≤ controls
RunsFit from controls (r ∷ rs) = (from ≤ r.first) × (1 ≤ r.len) × (r.len ≤ most_elements) × RunsFit (r.first + r.len) controls rs

-- the limits are kept, each array and each unit line fits, and the outputs of a unit are the next wires
pub record IsWellFormed (d : Definition) : Type 0 where
  pub controls : length d.controls ≤ most_wires
  pub arrays : RunsFit 0 (length d.controls) d.arrays
  pub units : length d.units ≤ most_units
  pub wires : length d.wires ≤ most_wires
  pub outputs : outputs_of d.units ≡ length d.wires
  pub fit : UnitsFit (length d.controls) 0 d.units
