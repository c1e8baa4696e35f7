use Rattle.std.proofs.Common.{◌≡◌, take, length}
use Rattle.sn_mem.specs.Buses.{control_buses}
use Rattle.sn_synth.specs.Synths.{control_values}
use Rattle.sn_synth.proofs.controls.read_controls.Given as goal

abbrev pub invariant-loop-control : goal.invariant-loop-control
invariant-loop-control g l = record {
  values : l.values ≡ control_values (control_buses (g.P.Port.words l.initial.port)) (take l.control-index l.controls);
  long : length l.values ≡ l.control-index;
  words : g.P.Port.words l.port ≡ g.P.Port.words l.initial.port;
  foot : g.P.Port.foot l.port ≡ g.P.Port.foot l.initial.port;
  rest : g.P.Port.rest l.port ≡ g.P.Port.rest l.initial.port;
}
