use Rattle.std.proofs.Common.{◌≡◌, ◌++◌, drop, map, None}
use Rattle.sn_osc.specs.Shape.{argument_of}
use Rattle.sn_mem.specs.Buses.{control_buses}
use Rattle.sn_world.specs.Rows.{first_refusal}
use Rattle.sn_world.specs.Runs.{runs_and_values}
use Rattle.sn_buscmd.specs.Setting.{place_refusal}
use Rattle.sn_buscmd.proofs.asking_runs.runs_and_values.Given as goal

abbrev pub invariant-loop-run : goal.invariant-loop-run
invariant-loop-run g l = record {
  all : first_refusal place_refusal (drop l.run-index l.runs) ≡ None;
  left : map argument_of l.found.items ++ runs_and_values (control_buses (g.P.Port.words l.fn.port)) (drop l.run-index l.runs) ≡ runs_and_values (control_buses (g.P.Port.words l.fn.port)) l.runs;
  words : g.P.Port.words l.port ≡ g.P.Port.words l.fn.port;
  foot : g.P.Port.foot l.port ≡ g.P.Port.foot l.fn.port;
  rest : g.P.Port.rest l.port ≡ g.P.Port.rest l.fn.port;
}
