use Rattle.std.proofs.Common.{◌≡◌, ◌++◌, ◌-◌, map}
use Rattle.sn_osc.specs.Shape.{argument_of}
use Rattle.sn_mem.specs.Buses.{control_buses}
use Rattle.sn_world.specs.Runs.{values_from}
use Rattle.sn_buscmd.proofs.asking_runs.push_values.Given as goal

abbrev pub invariant-loop-number : goal.invariant-loop-number
invariant-loop-number g l = record {
  left : map argument_of l.found.items ++ values_from (control_buses (g.P.Port.words l.fn.port)) l.number (l.end - l.number) ≡ map argument_of l.fn.found.items ++ values_from (control_buses (g.P.Port.words l.fn.port)) l.first (l.end - l.first);
  words : g.P.Port.words l.port ≡ g.P.Port.words l.fn.port;
  foot : g.P.Port.foot l.port ≡ g.P.Port.foot l.fn.port;
  rest : g.P.Port.rest l.port ≡ g.P.Port.rest l.fn.port;
}
