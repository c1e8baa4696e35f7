-- The lanes that are left make of the words what all made of the first.
use Rattle.std.proofs.Common.{◌≡◌, drop}
use Rattle.sn_io.specs.Joints.{with_lanes}
use Rattle.sn_io.proofs.joints.add_lanes.Given as goal

abbrev pub invariant-loop-moved : goal.invariant-loop-moved
invariant-loop-moved g l = record {
  words : with_lanes l.block (drop l.moved-index l.lanes) (g.P.Port.words l.port) ≡ with_lanes l.block l.lanes (g.P.Port.words l.fn.port);
  foot : g.P.Port.foot l.port ≡ g.P.Port.foot l.fn.port;
  rest : g.P.Port.rest l.port ≡ g.P.Port.rest l.fn.port;
}
