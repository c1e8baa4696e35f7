use Rattle.std.proofs.Common.{◌≡◌, ◌<◌, ℕ, ℤ, List, take, length}
use Rattle.sn_mem.specs.Blocks.{scan}
use Rattle.sn_mem.specs.Blocks.{window}
use Rattle.sn_filt.specs.Lines.{comb_l_step}
use Rattle.sn_filt.specs.declared.lines.Comb.{Comb}
use Rattle.sn_filt.specs.declared.lines.CombFrame.{CombFrame}
use Rattle.sn_filt.proofs.RingLaws.{Apart}
use Rattle.sn_filt.proofs.lines.run_comb.Given as goal

-- an output and the state so far
abbrev pub IsHeard : (CombFrame → ℤ) → ℕ → ℕ → ℕ → Comb × List ℕ → List (List ℤ) → ℕ → Comb × List ℕ → List ℤ → Type 0
IsHeard output rate most places begin inputs frame state samples = (length samples ≡ 64) × ((state, take frame samples) ≡ scan (comb_l_step output rate most places) begin inputs frame)

abbrev pub invariant-loop-frame : goal.invariant-loop-frame
invariant-loop-frame g l = record {
  place : l.comb.place < l.places;
  foot : g.P.Port.foot l.port ≡ g.P.Port.foot l.initial.port;
  rest : g.P.Port.rest l.port ≡ g.P.Port.rest l.initial.port;
  comb : IsHeard (λ y. y.comb) l.line.rate l.line.most l.places (l.initial.comb, window (g.P.Port.words l.initial.port) l.state.at l.state.len) l.inputs l.frame (l.comb, window (g.P.Port.words l.port) l.state.at l.state.len) l.echoes;
  allpass : IsHeard (λ y. y.allpass) l.line.rate l.line.most l.places (l.initial.comb, window (g.P.Port.words l.initial.port) l.state.at l.state.len) l.inputs l.frame (l.comb, window (g.P.Port.words l.port) l.state.at l.state.len) l.allpass;
  apart : Apart l.state.at l.state.len (g.P.Port.words l.initial.port) (g.P.Port.words l.port);
}
