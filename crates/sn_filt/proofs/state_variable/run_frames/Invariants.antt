use Rattle.std.proofs.Common.{◌≡◌, ℕ, ℤ, List, take, length}
use Rattle.sn_mem.specs.Blocks.{scan}
use Rattle.sn_filt.specs.StateVariable.{svf_at}
use Rattle.sn_filt.specs.declared.state_variable.Bands.{Bands}
use Rattle.sn_filt.specs.declared.state_variable.Integrators.{Integrators}
use Rattle.sn_filt.proofs.state_variable.run_frames.Given as goal

-- an output and the state so far
abbrev pub IsHeard : (Bands → ℤ) → ℕ → Integrators → List (List ℤ) → ℕ → Integrators → List ℤ → Type 0
IsHeard output rate begin inputs frame state samples = (length samples ≡ 64) × ((state, take frame samples) ≡ scan (svf_at output rate) begin inputs frame)

abbrev pub invariant-loop-frame : goal.invariant-loop-frame
invariant-loop-frame l =
    IsHeard (λ y. y.low) l.fn.tuning.rate l.fn.begin l.inputs l.frame l.state l.low
    × IsHeard (λ y. y.band) l.fn.tuning.rate l.fn.begin l.inputs l.frame l.state l.band
    × IsHeard (λ y. y.high) l.fn.tuning.rate l.fn.begin l.inputs l.frame l.state l.high
    × (l.tuning.rate ≡ l.fn.tuning.rate)
