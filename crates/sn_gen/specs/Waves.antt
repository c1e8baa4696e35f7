-- What SinOsc, LFSaw and LFTri have in common.
use Rattle.std.specs.Prelude.{◌≡◌, ◌<◌, ℕ, List, ℤ}
use Rattle.sn_ports.specs.Limits.{block_frames}
use Rattle.sn_fixed.specs.Fixed.{step_of}
use Rattle.sn_mem.specs.Blocks.{sample}
use Rattle.sn_gen.specs.Phases.{moved, grown}
use Rattle.sn_gen.specs.declared.waves.Turn.{Turn}

-- WAVE freq phase, of any shape over the phase
abbrev pub wave : (ℕ → ℤ) → ℕ → ℕ → List (List ℤ) → ℕ → ℕ × ℤ
wave shape rate p inputs k =
    let q = moved p (sample inputs 1 k) in
    (grown rate p (sample inputs 0 k), shape q)

-- at each frame of a block the frequency gives the same step, and the input `phase` is the same
pub record IsSteady (rate : ℕ) (turn : Turn) (inputs : List (List ℤ)) : Type 0 where
  pub step : (k : ℕ) → k < block_frames → step_of (sample inputs 0 k) rate ≡ turn.step
  pub offset : (k : ℕ) → k < block_frames → sample inputs 1 k ≡ turn.offset
