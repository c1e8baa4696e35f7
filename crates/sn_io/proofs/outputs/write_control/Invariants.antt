use Rattle.std.proofs.Common.{◌≡◌}
use Rattle.sn_io.specs.Channels.{channels}
use Rattle.sn_io.specs.OverWords.{onto_control_channel}
use Rattle.sn_io.proofs.outputs.write_control.Given as goal

abbrev pub invariant-loop-channel : goal.invariant-loop-channel
invariant-loop-channel g l = record {
  words : g.P.Port.words l.port ≡ channels (onto_control_channel l.block l.inputs) l.inputs l.channel (g.P.Port.words l.initial.port);
  foot : g.P.Port.foot l.port ≡ g.P.Port.foot l.initial.port;
  rest : g.P.Port.rest l.port ≡ g.P.Port.rest l.initial.port;
}
