use Rattle.std.proofs.Common.{◌≡◌, ◌+◌, ◌-◌, replicate}
use Rattle.sn_mem.specs.Buses.{control_buses}
use Rattle.sn_world.specs.Buses.{with_values}
use Rattle.sn_buscmd.specs.Setting.{KeepsOtherWords}
use Rattle.sn_buscmd.proofs.filling.fill_buses.Given as goal

abbrev pub invariant-loop-number : goal.invariant-loop-number
invariant-loop-number g l = record {
  left : with_values (control_buses (g.P.Port.words l.port)) l.number (replicate (l.fill.first + l.fill.count - l.number) l.fill.value) ≡ with_values (control_buses (g.P.Port.words l.fn.port)) l.fill.first (replicate l.fill.count l.fill.value);
  others : KeepsOtherWords (g.P.Port.words l.fn.port) (g.P.Port.words l.port);
  foot : g.P.Port.foot l.port ≡ g.P.Port.foot l.fn.port;
  rest : g.P.Port.rest l.port ≡ g.P.Port.rest l.fn.port;
}
