use Rattle.std.proofs.Common.{◌≡◌, ◌<◌, ℕ, ℤ, List, take, length}
use Rattle.sn_mem.specs.Blocks.{window, scan}
use Rattle.sn_filt.specs.Rings.{ring_step}
use Rattle.sn_filt.proofs.RingLaws.{Apart}
use Rattle.sn_filt.proofs.rings.run_echo.Given as goal

abbrev pub invariant-loop-frame : goal.invariant-loop-frame
invariant-loop-frame g l = record {
  place : l.place < l.places;
  long : length l.samples ≡ 64;
  rate : l.times.rate ≡ g.U.Echo.rate l.unit;
  foot : g.P.Port.foot l.port ≡ g.P.Port.foot l.initial.port;
  rest : g.P.Port.rest l.port ≡ g.P.Port.rest l.initial.port;
  ran : ◌≡◌ {A = (ℕ × List ℕ) × List ℤ} ((l.place, window (g.P.Port.words l.port) l.state.at l.state.len), take l.frame l.samples)
      (scan (ring_step (g.U.Echo.reach l.unit) (g.U.Echo.step l.unit) l.places) (l.initial.place, window (g.P.Port.words l.initial.port) l.state.at l.state.len) l.inputs l.frame);
  apart : Apart l.state.at l.state.len (g.P.Port.words l.initial.port) (g.P.Port.words l.port);
}
