use Rattle.std.proofs.Common.{◌≡◌, ◌++◌, drop, map, None}
use Rattle.sn_osc.specs.Shape.{argument_of}
use Rattle.sn_mem.specs.Buses.{control_buses}
use Rattle.sn_world.specs.Rows.{first_refusal}
use Rattle.sn_world.specs.Buses.{buses_and_values}
use Rattle.sn_buscmd.specs.Setting.{number_refusal}
use Rattle.sn_buscmd.proofs.asking.buses_and_values.Given as goal

abbrev pub invariant-loop-number : goal.invariant-loop-number
invariant-loop-number g l = record {
  all : first_refusal number_refusal (drop l.number-index l.numbers) ≡ None;
  left : map argument_of l.found.items ++ buses_and_values (control_buses (g.P.Port.words l.fn.port)) (drop l.number-index l.numbers) ≡ buses_and_values (control_buses (g.P.Port.words l.fn.port)) l.numbers;
  words : g.P.Port.words l.port ≡ g.P.Port.words l.fn.port;
  foot : g.P.Port.foot l.port ≡ g.P.Port.foot l.fn.port;
  rest : g.P.Port.rest l.port ≡ g.P.Port.rest l.fn.port;
}
