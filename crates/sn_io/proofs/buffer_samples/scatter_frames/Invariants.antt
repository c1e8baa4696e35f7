use Rattle.std.proofs.Common.{◌≡◌}
use Rattle.sn_io.specs.BufferUnits.{scattered}
use Rattle.sn_io.specs.BuffersOverWords.{set_word}
use Rattle.sn_io.proofs.buffer_samples.scatter_frames.Given as goal

abbrev pub invariant-loop-at : goal.invariant-loop-at
invariant-loop-at g l = record {
  words : g.P.Port.words l.port ≡ scattered (set_word l.place.extent.at) l.inputs l.first l.place.channels l.frames l.at (g.P.Port.words l.initial.port);
  foot : g.P.Port.foot l.port ≡ g.P.Port.foot l.initial.port;
  rest : g.P.Port.rest l.port ≡ g.P.Port.rest l.initial.port;
}
