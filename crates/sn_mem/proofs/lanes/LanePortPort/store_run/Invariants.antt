use Rattle.std.proofs.Common.{◌≡◌, take, length}
use Rattle.sn_mem.specs.declared.lanes.LaneRest.{LaneRest}
use Rattle.sn_mem.specs.Blocks.{put}
use Rattle.sn_mem.specs.Lanes.{exchanged, foot_through}
use Rattle.sn_mem.proofs.lanes.LanePortPort.store_run.Given as goal

abbrev pub invariant-loop-i : goal.invariant-loop-i
invariant-loop-i g l = record {
  foot : foot_through l.self.moves.now (length (g.P.Port.words l.self.port.now)) (g.P.Port.foot l.self.port.now) ≡ foot_through l.initial.self.moves.now (length (g.P.Port.words l.initial.self.port.now)) (g.P.Port.foot l.initial.self.port.now);
  words : exchanged l.self.moves.now (g.P.Port.words l.self.port.now) ≡ put (exchanged l.initial.self.moves.now (g.P.Port.words l.initial.self.port.now)) l.at (take l.i l.run);
  rest : ◌≡◌ {A = LaneRest g.row.P-Rest.Denot}
      (record { port = l.self.port.ghost_name; moves = l.self.moves.now; foot = g.P.Port.foot l.self.port.now; rest = g.P.Port.rest l.self.port.now })
      (record { port = l.initial.self.port.ghost_name; moves = l.initial.self.moves.now; foot = g.P.Port.foot l.initial.self.port.now; rest = g.P.Port.rest l.initial.self.port.now });
}
