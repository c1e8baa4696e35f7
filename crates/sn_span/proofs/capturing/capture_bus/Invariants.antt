-- The words of the bus so far.
use Rattle.std.proofs.Common.{◌≡◌}
use Rattle.sn_mem.specs.Blocks.{put, table}
use Rattle.sn_span.specs.Captures.{heard_word}
use Rattle.sn_span.proofs.capturing.capture_bus.Given as goal

abbrev pub invariant-loop-frame : goal.invariant-loop-frame
invariant-loop-frame g l = record {
  made : g.P.Port.words l.port ≡ put (g.P.Port.words l.fn.port) l.at (table (heard_word l.block (g.P.Port.words l.fn.port) l.bus) l.frame);
  foot : g.P.Port.foot l.port ≡ g.P.Port.foot l.fn.port;
  rest : g.P.Port.rest l.port ≡ g.P.Port.rest l.fn.port;
}
