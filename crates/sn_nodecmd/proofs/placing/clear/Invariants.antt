use Rattle.std.proofs.Common.{◌≡◌}
use Rattle.sn_nodecmd.specs.Placing.{cleared}
use Rattle.sn_nodecmd.proofs.placing.clear.Given as goal

abbrev pub invariant-loop-i : goal.invariant-loop-i
invariant-loop-i g l = (g.P.Port.words l.port ≡ cleared (g.P.Port.words l.initial.port) l.state.at l.i) × (g.P.Port.foot l.port ≡ g.P.Port.foot l.initial.port) × (g.P.Port.rest l.port ≡ g.P.Port.rest l.initial.port)
