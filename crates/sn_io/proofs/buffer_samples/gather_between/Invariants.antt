use Rattle.std.proofs.Common.{◌≡◌, length}
use Rattle.sn_io.specs.BuffersOverWords.{between_from}
use Rattle.sn_io.proofs.buffer_samples.gather_between.Given as goal

abbrev pub invariant-loop-channel : goal.invariant-loop-channel
invariant-loop-channel g l = record {
  made : l.outputs ≡ between_from (g.P.Port.words l.initial.port) l.place l.points l.channel;
  long : length l.outputs ≡ l.channel;
  words : g.P.Port.words l.port ≡ g.P.Port.words l.initial.port;
  foot : g.P.Port.foot l.port ≡ g.P.Port.foot l.initial.port;
  rest : g.P.Port.rest l.port ≡ g.P.Port.rest l.initial.port;
}
