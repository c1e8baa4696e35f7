use Rattle.std.proofs.Common.{◌≡◌, ◌++◌, map, drop}
use Rattle.sn_mem.specs.Buses.{control_buses}
use Rattle.sn_def.specs.Defs.{definition_of}
use Rattle.sn_world.specs.SynthQueries.{values_asked}
use Rattle.sn_nodecmd.specs.Runs.{name_of}
use Rattle.sn_nodecmd.proofs.getting.push_values.Given as goal

abbrev pub invariant-loop-control : goal.invariant-loop-control
invariant-loop-control g l = record {
  told : l.answer ++ values_asked (control_buses (g.P.Port.words l.fn.port)) (definition_of l.def) l.controls (map name_of (drop l.control-index l.asked)) ≡ l.fn.answer ++ values_asked (control_buses (g.P.Port.words l.fn.port)) (definition_of l.def) l.controls (map name_of l.asked);
  words : g.P.Port.words l.port ≡ g.P.Port.words l.fn.port;
  foot : g.P.Port.foot l.port ≡ g.P.Port.foot l.fn.port;
  rest : g.P.Port.rest l.port ≡ g.P.Port.rest l.fn.port;
}
