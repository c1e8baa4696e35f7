use Rattle.std.proofs.Common.{◌≡◌, drop}
use Rattle.sn_mem.specs.Buses.{control_buses}
use Rattle.sn_buscmd.specs.Fills.{fill_buses}
use Rattle.sn_buscmd.specs.Setting.{change_all, KeepsOtherWords}
use Rattle.sn_buscmd.proofs.filling.fill_each.Given as goal

abbrev pub invariant-loop-fill : goal.invariant-loop-fill
invariant-loop-fill g l = record {
  left : change_all fill_buses (drop l.fill-index l.fills) (control_buses (g.P.Port.words l.port)) ≡ change_all fill_buses l.fills (control_buses (g.P.Port.words l.fn.port));
  others : KeepsOtherWords (g.P.Port.words l.fn.port) (g.P.Port.words l.port);
  foot : g.P.Port.foot l.port ≡ g.P.Port.foot l.fn.port;
  rest : g.P.Port.rest l.port ≡ g.P.Port.rest l.fn.port;
}
