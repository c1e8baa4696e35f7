use Rattle.std.proofs.Common.{◌≡◌, take, length}
use Rattle.sn_mem.specs.declared.local.LocalRest.{LocalRest}
use Rattle.sn_mem.specs.ThroughFoot.{outside}
use Rattle.sn_mem.specs.Blocks.{window}
use Rattle.sn_mem.specs.Copies.{localized}
use Rattle.sn_mem.proofs.local.LocalPortPort.load_run.Given as goal

abbrev pub invariant-loop-i : goal.invariant-loop-i
invariant-loop-i g l = record {
  foot : g.P.Port.foot l.self.port.now ≡ g.P.Port.foot l.initial.self.port.now;
  same : localized (g.P.Port.foot l.self.port.now) (g.P.Port.words l.self.port.now) l.self.copy.now ≡ localized (g.P.Port.foot l.initial.self.port.now) (g.P.Port.words l.initial.self.port.now) l.initial.self.copy.now;
  rest : ◌≡◌ {A = LocalRest g.row.P-Rest.Denot}
      (record { port = l.self.port.ghost_name; copy = l.self.copy.ghost_name; rest = g.P.Port.rest l.self.port.now; size = length l.self.copy.now; outside = outside (g.P.Port.foot l.self.port.now) (g.P.Port.words l.self.port.now) })
      (record { port = l.initial.self.port.ghost_name; copy = l.initial.self.copy.ghost_name; rest = g.P.Port.rest l.initial.self.port.now; size = length l.initial.self.copy.now; outside = outside (g.P.Port.foot l.initial.self.port.now) (g.P.Port.words l.initial.self.port.now) });
  taken : take l.i l.into ≡ window (localized (g.P.Port.foot l.initial.self.port.now) (g.P.Port.words l.initial.self.port.now) l.initial.self.copy.now) l.at l.i;
}
