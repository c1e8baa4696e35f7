use Rattle.std.proofs.Common.{◌≡◌, drop, None}
use Rattle.sn_mem.specs.Buses.{control_buses}
use Rattle.sn_world.specs.Rows.{first_refusal}
use Rattle.sn_buscmd.specs.Setting.{change_all, set_pair, value_refusal, KeepsOtherWords}
use Rattle.sn_buscmd.proofs.setting.set_buses.Given as goal

abbrev pub invariant-loop-pair : goal.invariant-loop-pair
invariant-loop-pair g l = record {
  all : first_refusal value_refusal (drop l.pair-index l.pairs) ≡ None;
  left : change_all set_pair (drop l.pair-index l.pairs) (control_buses (g.P.Port.words l.port)) ≡ change_all set_pair l.pairs (control_buses (g.P.Port.words l.fn.port));
  others : KeepsOtherWords (g.P.Port.words l.fn.port) (g.P.Port.words l.port);
  foot : g.P.Port.foot l.port ≡ g.P.Port.foot l.fn.port;
  rest : g.P.Port.rest l.port ≡ g.P.Port.rest l.fn.port;
}
