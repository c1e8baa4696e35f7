use Rattle.std.proofs.Common.{◌≡◌, drop, None}
use Rattle.sn_mem.specs.Buses.{control_buses}
use Rattle.sn_world.specs.Rows.{first_refusal}
use Rattle.sn_buscmd.specs.Setting.{change_all, set_values, values_refusal, KeepsOtherWords}
use Rattle.sn_buscmd.proofs.setting_runs.set_runs.Given as goal

abbrev pub invariant-loop-run : goal.invariant-loop-run
invariant-loop-run g l = record {
  all : first_refusal values_refusal (drop l.run-index l.runs) ≡ None;
  left : change_all set_values (drop l.run-index l.runs) (control_buses (g.P.Port.words l.port)) ≡ change_all set_values l.runs (control_buses (g.P.Port.words l.fn.port));
  others : KeepsOtherWords (g.P.Port.words l.fn.port) (g.P.Port.words l.port);
  foot : g.P.Port.foot l.port ≡ g.P.Port.foot l.fn.port;
  rest : g.P.Port.rest l.port ≡ g.P.Port.rest l.fn.port;
}
