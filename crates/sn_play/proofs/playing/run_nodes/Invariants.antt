-- The synths so far have made of the words what their steps make of the first.
use Rattle.std.proofs.Common.{◌≡◌, length, take}
use Rattle.sn_graph.specs.Plans.{runs_of}
use Rattle.sn_play.specs.Steps.{lane_steps}
use Rattle.sn_play.proofs.playing.run_nodes.Given as goal

abbrev pub invariant-loop-number : goal.invariant-loop-number
invariant-loop-number g l = record {
  words : g.P.Port.words l.port ≡ lane_steps l.stage l.block (runs_of (take l.number l.nodes) l.moves) (g.P.Port.words l.fn.port);
  long : length (g.P.Port.words l.port) ≡ length (g.P.Port.words l.fn.port);
  foot : g.P.Port.foot l.port ≡ g.P.Port.foot l.fn.port;
  rest : g.P.Port.rest l.port ≡ g.P.Port.rest l.fn.port;
}
