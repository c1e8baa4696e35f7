use Rattle.std.proofs.Common.{◌≡◌, length}
use Rattle.sn_mem.specs.Buses.{audio_buses}
use Rattle.sn_io.specs.BusInputs.{audio_inputs}
use Rattle.sn_io.proofs.inputs.read_audio.Given as goal

abbrev pub invariant-loop-channel : goal.invariant-loop-channel
invariant-loop-channel g l = record {
  made : l.outputs ≡ audio_inputs l.feedback l.block l.inputs l.channel (audio_buses (g.P.Port.words l.initial.port));
  long : length l.outputs ≡ l.channel;
  words : g.P.Port.words l.port ≡ g.P.Port.words l.initial.port;
  foot : g.P.Port.foot l.port ≡ g.P.Port.foot l.initial.port;
  rest : g.P.Port.rest l.port ≡ g.P.Port.rest l.initial.port;
}
