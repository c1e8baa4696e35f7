-- The table of units: family, name, inputs that a unit always has, outputs, words of state; and what a unit reads or
-- writes, its done action, and whether it sends triggers.
use Rattle.std.specs.Prelude.{ℕ, Bool, true, false, pos, List, [], ◌∷◌, codes, find, Option, Some, None}
use Rattle.std.specs.Str.{bytes_eq}
use Rattle.sn_def.specs.declared.kind.Kind.{Kind}
use Rattle.sn_def.specs.declared.kind.Kind.TheVariants as kinds
use Rattle.sn_def.specs.declared.table.Mark.{Mark}
use Rattle.sn_def.specs.declared.table.Mark.TheVariants.{Signal, Index, Constant, Longest}
use Rattle.sn_def.specs.declared.table.StateSize.{StateSize}
use Rattle.sn_def.specs.declared.table.StateSize.TheVariants.{Fixed, Delay, Comb, DampedComb}
use Rattle.sn_def.specs.declared.table.Family.{Family}
use Rattle.sn_def.specs.declared.table.Family.TheVariants as families
use Rattle.sn_def.specs.declared.table.Access.TheVariants as accesses
use Rattle.sn_def.specs.declared.table.Bank.{Bank}
use Rattle.sn_def.specs.declared.table.Bank.TheVariants as banks
use Rattle.sn_def.specs.declared.table.Use.{Use}
use Rattle.sn_def.specs.declared.table.Ends.{Ends}
use Rattle.sn_def.specs.declared.table.Ends.TheVariants as ends

pub record UnitRow : Type 0 where
  pub family : Family
  pub name : List ℕ
  pub inputs : List Mark
  pub signals : ℕ
  pub least : ℕ
  pub most : ℕ
  pub words : StateSize
  pub uses : Option Use
  pub ends : Ends
  pub sends : Bool

-- a unit with so many outputs that reads and writes no bus and no buffer, does not end and sends nothing
abbrev pub unit_row : Family → List ℕ → List Mark → ℕ → StateSize → UnitRow
unit_row family name inputs outputs words = record {
  family = family;
  name = name;
  inputs = inputs;
  signals = 0;
  least = outputs;
  most = outputs;
  words = words;
  uses = None;
  ends = ends.Never;
  sends = false;
}

-- it reads a channel for each of its outputs, which may be up to 8
abbrev pub reading : Bank → UnitRow → UnitRow
reading bank row = record row { most = 8; uses = Some (record { access = accesses.Read; bank = bank }) }

-- it writes a channel for each of the signals that follow its inputs, 1 to 8
abbrev pub writing : Bank → UnitRow → UnitRow
writing bank row = record row { signals = 8; uses = Some (record { access = accesses.Write; bank = bank }) }

abbrev pub ending : Ends → UnitRow → UnitRow
ending end row = record row { ends = end }

abbrev pub sending : UnitRow → UnitRow
sending row = record row { sends = true }

unfoldable pub row_of : Kind → UnitRow
row_of kinds.SinOsc = unit_row families.Generator (codes "SinOsc") (Signal ∷ Signal ∷ []) 1 (Fixed 1)
row_of kinds.Sine = unit_row families.Generator (codes "Sine") (Signal ∷ Signal ∷ []) 1 (Fixed 1)
row_of kinds.LFSaw = unit_row families.Generator (codes "LFSaw") (Signal ∷ Signal ∷ []) 1 (Fixed 1)
row_of kinds.Saw = unit_row families.Generator (codes "Saw") (Signal ∷ Signal ∷ []) 1 (Fixed 1)
row_of kinds.Blip = unit_row families.Generator (codes "Blip") (Signal ∷ Signal ∷ Signal ∷ []) 1 (Fixed 1)
row_of kinds.LFPulse = unit_row families.Generator (codes "LFPulse") (Signal ∷ Signal ∷ Signal ∷ []) 1 (Fixed 1)
row_of kinds.LFTri = unit_row families.Generator (codes "LFTri") (Signal ∷ Signal ∷ []) 1 (Fixed 1)
row_of kinds.Impulse = unit_row families.Generator (codes "Impulse") (Signal ∷ []) 1 (Fixed 2)
row_of kinds.WhiteNoise = unit_row families.Generator (codes "WhiteNoise") [] 1 (Fixed 1)
row_of kinds.PinkNoise = unit_row families.Generator (codes "PinkNoise") [] 1 (Fixed 19)
row_of kinds.Phasor = unit_row families.Generator (codes "Phasor") (Signal ∷ Signal ∷ Signal ∷ Signal ∷ Signal ∷ []) 1 (Fixed 3)
row_of kinds.Line = ending (ends.Input 3) (unit_row families.Generator (codes "Line") (Signal ∷ Signal ∷ Signal ∷ Constant ∷ []) 1 (Fixed 5))
row_of kinds.Linen = ending (ends.Input 4) (unit_row families.Generator (codes "Linen") (Signal ∷ Signal ∷ Signal ∷ Signal ∷ Constant ∷ []) 1 (Fixed 7))
row_of kinds.Add = unit_row families.Arithmetic (codes "Add") (Signal ∷ Signal ∷ []) 1 (Fixed 0)
row_of kinds.Sub = unit_row families.Arithmetic (codes "Sub") (Signal ∷ Signal ∷ []) 1 (Fixed 0)
row_of kinds.Mul = unit_row families.Arithmetic (codes "Mul") (Signal ∷ Signal ∷ []) 1 (Fixed 0)
row_of kinds.MulAdd = unit_row families.Arithmetic (codes "MulAdd") (Signal ∷ Signal ∷ Signal ∷ []) 1 (Fixed 0)
row_of kinds.Neg = unit_row families.Arithmetic (codes "Neg") (Signal ∷ []) 1 (Fixed 0)
row_of kinds.Abs = unit_row families.Arithmetic (codes "Abs") (Signal ∷ []) 1 (Fixed 0)
row_of kinds.Min = unit_row families.Arithmetic (codes "Min") (Signal ∷ Signal ∷ []) 1 (Fixed 0)
row_of kinds.Max = unit_row families.Arithmetic (codes "Max") (Signal ∷ Signal ∷ []) 1 (Fixed 0)
row_of kinds.Clip = unit_row families.Arithmetic (codes "Clip") (Signal ∷ Signal ∷ Signal ∷ []) 1 (Fixed 0)
row_of kinds.Gt = unit_row families.Arithmetic (codes "Gt") (Signal ∷ Signal ∷ []) 1 (Fixed 0)
row_of kinds.Lt = unit_row families.Arithmetic (codes "Lt") (Signal ∷ Signal ∷ []) 1 (Fixed 0)
row_of kinds.Pan2 = unit_row families.Arithmetic (codes "Pan2") (Signal ∷ Signal ∷ Signal ∷ []) 2 (Fixed 0)
row_of kinds.Div = unit_row families.Arithmetic (codes "Div") (Signal ∷ Signal ∷ []) 1 (Fixed 0)
row_of kinds.Mod = unit_row families.Arithmetic (codes "Mod") (Signal ∷ Signal ∷ []) 1 (Fixed 0)
row_of kinds.Exp2 = unit_row families.Arithmetic (codes "Exp2") (Signal ∷ []) 1 (Fixed 0)
row_of kinds.Log2 = unit_row families.Arithmetic (codes "Log2") (Signal ∷ []) 1 (Fixed 0)
row_of kinds.OnePole = unit_row families.Filter (codes "OnePole") (Signal ∷ Signal ∷ []) 1 (Fixed 1)
row_of kinds.Lag = unit_row families.Filter (codes "Lag") (Signal ∷ Signal ∷ []) 1 (Fixed 2)
row_of kinds.LagUD = unit_row families.Filter (codes "LagUD") (Signal ∷ Signal ∷ Signal ∷ []) 1 (Fixed 2)
row_of kinds.Integrator = unit_row families.Filter (codes "Integrator") (Signal ∷ Signal ∷ []) 1 (Fixed 1)
row_of kinds.Delay1 = unit_row families.Filter (codes "Delay1") (Signal ∷ []) 1 (Fixed 1)
row_of kinds.DelayN = unit_row families.Filter (codes "DelayN") (Signal ∷ Longest ∷ Signal ∷ []) 1 Delay
row_of kinds.DelayL = unit_row families.Filter (codes "DelayL") (Signal ∷ Longest ∷ Signal ∷ []) 1 Delay
row_of kinds.CombN = unit_row families.Filter (codes "CombN") (Signal ∷ Longest ∷ Signal ∷ Signal ∷ []) 1 Comb
row_of kinds.CombL = unit_row families.Filter (codes "CombL") (Signal ∷ Longest ∷ Signal ∷ Signal ∷ Signal ∷ []) 2 DampedComb
row_of kinds.SOS = unit_row families.Filter (codes "SOS") (Signal ∷ Signal ∷ Signal ∷ Signal ∷ Signal ∷ Signal ∷ []) 1 (Fixed 4)
row_of kinds.SVF = unit_row families.Filter (codes "SVF") (Signal ∷ Signal ∷ Signal ∷ []) 3 (Fixed 2)
row_of kinds.Latch = unit_row families.Filter (codes "Latch") (Signal ∷ Signal ∷ []) 1 (Fixed 2)
row_of kinds.Gate = unit_row families.Filter (codes "Gate") (Signal ∷ Signal ∷ []) 1 (Fixed 1)
row_of kinds.PulseCount = unit_row families.Filter (codes "PulseCount") (Signal ∷ Signal ∷ []) 1 (Fixed 3)
row_of kinds.Stepper = unit_row families.Filter (codes "Stepper") (Signal ∷ Signal ∷ Signal ∷ Signal ∷ Signal ∷ Signal ∷ []) 1 (Fixed 4)
row_of kinds.Trig = unit_row families.Filter (codes "Trig") (Signal ∷ Signal ∷ []) 1 (Fixed 3)
row_of kinds.Inar = reading banks.Audio (unit_row families.Bus (codes "In.ar") (Index ∷ []) 1 (Fixed 0))
row_of kinds.InFeedback = reading banks.Audio (unit_row families.Bus (codes "InFeedback") (Index ∷ []) 1 (Fixed 0))
row_of kinds.Inkr = reading banks.Control (unit_row families.Bus (codes "In.kr") (Index ∷ []) 1 (Fixed 0))
row_of kinds.Outar = writing banks.Audio (unit_row families.Bus (codes "Out.ar") (Index ∷ []) 0 (Fixed 0))
row_of kinds.ReplaceOut = writing banks.Audio (unit_row families.Bus (codes "ReplaceOut") (Index ∷ []) 0 (Fixed 0))
row_of kinds.Outkr = writing banks.Control (unit_row families.Bus (codes "Out.kr") (Index ∷ []) 0 (Fixed 0))
row_of kinds.PlayBuf = ending (ends.Input 5) (reading banks.Buffer (unit_row families.Buffer (codes "PlayBuf") (Index ∷ Signal ∷ Signal ∷ Signal ∷ Signal ∷ Constant ∷ []) 1 (Fixed 4)))
row_of kinds.PlayBufL = ending (ends.Input 5) (reading banks.Buffer (unit_row families.Buffer (codes "PlayBufL") (Index ∷ Signal ∷ Signal ∷ Signal ∷ Signal ∷ Constant ∷ []) 1 (Fixed 4)))
row_of kinds.RecordBuf = ending (ends.Input 3) (writing banks.Buffer (unit_row families.Buffer (codes "RecordBuf") (Index ∷ Signal ∷ Signal ∷ Constant ∷ []) 0 (Fixed 2)))
row_of kinds.BufRd = reading banks.Buffer (unit_row families.Buffer (codes "BufRd") (Index ∷ Signal ∷ []) 1 (Fixed 0))
row_of kinds.BufRdL = reading banks.Buffer (unit_row families.Buffer (codes "BufRdL") (Index ∷ Signal ∷ Signal ∷ Signal ∷ []) 1 (Fixed 0))
row_of kinds.BufWr = writing banks.Buffer (unit_row families.Buffer (codes "BufWr") (Index ∷ Signal ∷ []) 0 (Fixed 0))
row_of kinds.BufFrames = unit_row families.Buffer (codes "BufFrames") (Index ∷ []) 1 (Fixed 0)
row_of kinds.SendTrig = sending (unit_row families.Trigger (codes "SendTrig") (Signal ∷ Signal ∷ Signal ∷ []) 0 (Fixed 4))
row_of kinds.DetectSilence = ending (ends.Input 3) (unit_row families.Trigger (codes "DetectSilence") (Signal ∷ Signal ∷ Signal ∷ Constant ∷ []) 1 (Fixed 2))
row_of kinds.FreeSelf = ending (ends.Always (pos 2)) (unit_row families.Trigger (codes "FreeSelf") (Signal ∷ []) 0 (Fixed 1))
row_of kinds.PauseSelf = ending (ends.Always (pos 1)) (unit_row families.Trigger (codes "PauseSelf") (Signal ∷ []) 0 (Fixed 1))

-- all kinds, in the order of the table
abbrev pub every_kind : List Kind
every_kind =
    kinds.SinOsc ∷ kinds.Sine ∷ kinds.LFSaw ∷ kinds.Saw ∷ kinds.Blip ∷ kinds.LFPulse ∷ kinds.LFTri ∷
    kinds.Impulse ∷ kinds.WhiteNoise ∷ kinds.PinkNoise ∷ kinds.Phasor ∷ kinds.Line ∷ kinds.Linen ∷ kinds.Add ∷
    kinds.Sub ∷ kinds.Mul ∷ kinds.MulAdd ∷ kinds.Neg ∷ kinds.Abs ∷ kinds.Min ∷ kinds.Max ∷ kinds.Clip ∷
    kinds.Gt ∷ kinds.Lt ∷ kinds.Pan2 ∷ kinds.Div ∷ kinds.Mod ∷ kinds.Exp2 ∷ kinds.Log2 ∷ kinds.OnePole ∷
    kinds.Lag ∷ kinds.LagUD ∷ kinds.Integrator ∷ kinds.Delay1 ∷ kinds.DelayN ∷ kinds.DelayL ∷ kinds.CombN ∷
    kinds.CombL ∷ kinds.SOS ∷ kinds.SVF ∷ kinds.Latch ∷ kinds.Gate ∷ kinds.PulseCount ∷ kinds.Stepper ∷
    kinds.Trig ∷ kinds.Inar ∷ kinds.InFeedback ∷ kinds.Inkr ∷ kinds.Outar ∷ kinds.ReplaceOut ∷ kinds.Outkr ∷
    kinds.PlayBuf ∷ kinds.PlayBufL ∷ kinds.RecordBuf ∷ kinds.BufRd ∷ kinds.BufRdL ∷ kinds.BufWr ∷
    kinds.BufFrames ∷ kinds.SendTrig ∷ kinds.DetectSilence ∷ kinds.FreeSelf ∷ kinds.PauseSelf ∷ []

-- the kind of this name
unfoldable pub kind_named : List ℕ → Option Kind
kind_named name = find (λ k. bytes_eq (row_of k).name name) every_kind
