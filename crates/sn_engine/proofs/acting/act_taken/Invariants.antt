-- What the entries that are still due do now is what all of them did at first.
use Rattle.std.proofs.Common.{◌≡◌, length}
use Rattle.sn_world.specs.World.{turn_of, world_of}
use Rattle.sn_world.specs.Pictures.{Pictures}
use Rattle.sn_engine.specs.Answerable.{AllAnswerable}
use Rattle.sn_engine.specs.Boundary.{act_entries, both, entries_ask, due_at, later_than}
use Rattle.sn_engine.specs.Holding.{LayoutStays}
use Rattle.sn_engine.proofs.acting.act_taken.Given as goal

abbrev pub invariant-loop-entry : goal.invariant-loop-entry
invariant-loop-entry g l = record {
  acts : act_entries (due_at l.now l.queue) (turn_of l.stage (g.P.Port.words l.port) l.replies) ≡ act_entries (due_at l.now l.fn.queue) (turn_of l.fn.stage (g.P.Port.words l.fn.port) l.fn.replies);
  asked : both l.asked (entries_ask (due_at l.now l.queue) (turn_of l.stage (g.P.Port.words l.port) l.replies)) ≡ entries_ask (due_at l.now l.fn.queue) (turn_of l.fn.stage (g.P.Port.words l.fn.port) l.fn.replies);
  layout : LayoutStays l.fn.watch.stays l.watch.stays (world_of l.fn.stage (g.P.Port.words l.fn.port)) (world_of l.stage (g.P.Port.words l.port));
  left : record l.queue { waiting = later_than l.now l.queue } ≡ record l.fn.queue { waiting = later_than l.now l.fn.queue };
  kept : l.queue ≡ record l.fn.queue { waiting = l.queue.waiting };
  waiting : AllAnswerable l.queue.waiting;
  pictures : Pictures l.stage (g.P.Port.words l.port);
  region : l.stage.pool.region ≡ l.fn.stage.pool.region;
  len : length (g.P.Port.words l.port) ≡ length (g.P.Port.words l.fn.port);
  foot : g.P.Port.foot l.port ≡ g.P.Port.foot l.fn.port;
  rest : g.P.Port.rest l.port ≡ g.P.Port.rest l.fn.port;
}

abbrev pub decreases-loop-entry : goal.decreases-loop-entry
decreases-loop-entry g l = length l.queue.waiting
