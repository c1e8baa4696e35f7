-- The words of the buses so far.
use Rattle.std.proofs.Common.{◌≡◌, take}
use Rattle.sn_mem.specs.Blocks.{put}
use Rattle.sn_span.specs.Captures.{heard_words}
use Rattle.sn_span.proofs.capturing.capture.Given as goal

abbrev pub invariant-loop-number : goal.invariant-loop-number
invariant-loop-number g l = record {
  made : g.P.Port.words l.port ≡ put (g.P.Port.words l.fn.port) l.at (heard_words l.block (g.P.Port.words l.fn.port) (take l.number l.outputs));
  foot : g.P.Port.foot l.port ≡ g.P.Port.foot l.fn.port;
  rest : g.P.Port.rest l.port ≡ g.P.Port.rest l.fn.port;
}
