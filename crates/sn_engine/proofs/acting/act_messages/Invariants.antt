-- What the messages that are left do now is what all of them did at first.
use Rattle.std.proofs.Common.{◌≡◌, map, drop, length}
use Rattle.std.specs.List.{AllByRecursion}
use Rattle.sn_osc.specs.Shape.{message_of}
use Rattle.sn_reply.specs.Sending.{IsAnswerable}
use Rattle.sn_world.specs.World.{turn_of, world_of}
use Rattle.sn_world.specs.Pictures.{Pictures}
use Rattle.sn_engine.specs.Boundary.{act_messages, both, messages_ask}
use Rattle.sn_engine.specs.Holding.{LayoutStays}
use Rattle.sn_engine.proofs.acting.act_messages.Given as goal

abbrev pub invariant-loop-message : goal.invariant-loop-message
invariant-loop-message g l = record {
  acts : act_messages l.from (map message_of (drop l.message-index l.messages)) (turn_of l.stage (g.P.Port.words l.port) l.replies)
      ≡ act_messages l.from (map message_of l.messages) (turn_of l.fn.stage (g.P.Port.words l.fn.port) l.fn.replies);
  asked : both l.asked (messages_ask l.from (map message_of (drop l.message-index l.messages)) (turn_of l.stage (g.P.Port.words l.port) l.replies))
      ≡ messages_ask l.from (map message_of l.messages) (turn_of l.fn.stage (g.P.Port.words l.fn.port) l.fn.replies);
  layout : LayoutStays l.fn.watch.stays l.watch.stays (world_of l.fn.stage (g.P.Port.words l.fn.port)) (world_of l.stage (g.P.Port.words l.port));
  left : AllByRecursion IsAnswerable (map message_of (drop l.message-index l.messages));
  pictures : Pictures l.stage (g.P.Port.words l.port);
  region : l.stage.pool.region ≡ l.fn.stage.pool.region;
  len : length (g.P.Port.words l.port) ≡ length (g.P.Port.words l.fn.port);
  foot : g.P.Port.foot l.port ≡ g.P.Port.foot l.fn.port;
  rest : g.P.Port.rest l.port ≡ g.P.Port.rest l.fn.port;
}
