use Rattle.std.proofs.Common.{◌≡◌, ◌<◌, ℕ, ℤ, List, take, length}
use Rattle.sn_mem.specs.Blocks.{window, scan}
use Rattle.sn_filt.specs.Lines.{delay_l_step}
use Rattle.sn_filt.proofs.RingLaws.{Apart}
use Rattle.sn_filt.proofs.lines.run_delay.Given as goal

abbrev pub invariant-loop-frame : goal.invariant-loop-frame
invariant-loop-frame g l = record {
  place : l.place < l.places;
  long : length l.samples ≡ 64;
  foot : g.P.Port.foot l.port ≡ g.P.Port.foot l.initial.port;
  rest : g.P.Port.rest l.port ≡ g.P.Port.rest l.initial.port;
  ran : ◌≡◌ {A = (ℕ × List ℕ) × List ℤ} ((l.place, window (g.P.Port.words l.port) l.state.at l.state.len), take l.frame l.samples)
      (scan (delay_l_step l.line.rate l.line.most l.places) (l.initial.place, window (g.P.Port.words l.initial.port) l.state.at l.state.len) l.inputs l.frame);
  apart : Apart l.state.at l.state.len (g.P.Port.words l.initial.port) (g.P.Port.words l.port);
}
