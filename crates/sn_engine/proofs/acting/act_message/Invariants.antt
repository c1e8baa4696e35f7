-- What the completion messages that are left do now is what all of them did at first.
use Rattle.std.proofs.Common.{◌≡◌, ◌-◌, Ok, length}
use Rattle.sn_osc.specs.Shape.{message_of}
use Rattle.sn_reply.specs.Sending.{IsAnswerable}
use Rattle.sn_world.specs.World.{turn_of}
use Rattle.sn_world.specs.Pictures.{Pictures}
use Rattle.sn_world.specs.Answers.{NextHas, next_told}
use Rattle.sn_engine.specs.Boundary.{act_message, all_completed}
use Rattle.sn_engine.proofs.acting.act_message.Given as goal

abbrev pub invariant-loop : goal.invariant-loop
invariant-loop g l = record {
  acts : all_completed (8 - l.counter) l.from (record { turn = turn_of l.stage (g.P.Port.words l.port) l.replies; next = next_told l.handled })
      ≡ act_message l.from (message_of l.message) (turn_of l.fn.stage (g.P.Port.words l.fn.port) l.fn.replies);
  answerable : NextHas IsAnswerable (Ok l.handled);
  pictures : Pictures l.stage (g.P.Port.words l.port);
  region : l.stage.pool.region ≡ l.fn.stage.pool.region;
  len : length (g.P.Port.words l.port) ≡ length (g.P.Port.words l.fn.port);
  foot : g.P.Port.foot l.port ≡ g.P.Port.foot l.fn.port;
  rest : g.P.Port.rest l.port ≡ g.P.Port.rest l.fn.port;
}
