use Rattle.std.proofs.Common.{◌≡◌, ◌+◌, ◌≤◌, drop, length}
use Rattle.sn_mem.specs.Buses.{control_buses}
use Rattle.sn_world.specs.Buses.{with_values}
use Rattle.sn_buscmd.specs.Setting.{KeepsOtherWords}
use Rattle.sn_buscmd.proofs.setting_runs.set_run.Given as goal

abbrev pub invariant-loop-value : goal.invariant-loop-value
invariant-loop-value g l = record {
  end : l.initial.number + length l.values ≤ 1024;
  at : l.number ≡ l.initial.number + l.value-index;
  left : with_values (control_buses (g.P.Port.words l.port)) l.number (drop l.value-index l.values) ≡ with_values (control_buses (g.P.Port.words l.fn.port)) l.initial.number l.values;
  others : KeepsOtherWords (g.P.Port.words l.fn.port) (g.P.Port.words l.port);
  foot : g.P.Port.foot l.port ≡ g.P.Port.foot l.fn.port;
  rest : g.P.Port.rest l.port ≡ g.P.Port.rest l.fn.port;
}
