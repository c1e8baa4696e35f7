use Rattle.std.proofs.Common.{◌≡◌, ◌*◌}
use Rattle.sn_io.specs.BufferUnits.{set_frame}
use Rattle.sn_io.specs.BuffersOverWords.{set_word}
use Rattle.sn_io.proofs.buffer_samples.set_frame.Given as goal

abbrev pub invariant-loop-channel : goal.invariant-loop-channel
invariant-loop-channel g l = record {
  words : g.P.Port.words l.port ≡ set_frame (set_word l.place.extent.at) l.inputs l.first l.at (l.frame * l.place.channels) l.channel (g.P.Port.words l.initial.port);
  foot : g.P.Port.foot l.port ≡ g.P.Port.foot l.initial.port;
  rest : g.P.Port.rest l.port ≡ g.P.Port.rest l.initial.port;
}
