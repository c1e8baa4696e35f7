use Rattle.std.proofs.lemmas.Result.{on_ok_weaker}
use Rattle.sn_osc.specs.Shape.{message_of}
use Rattle.sn_world.specs.World.{turn_of}
use Rattle.sn_engine.proofs.KeptLemmas.{one_stays}
use Rattle.sn_engine.proofs.acting.act_one.Goals as goal

pub returns-clause-layout : goal.returns-clause-layout
returns-clause-layout g c =
    on_ok_weaker c.act_message.result
    (λ acts. one_stays c.args.from (message_of c.args.message.now) (turn_of c.args.stage.now (g.P.Port.words c.args.port.now) c.args.replies.now)
    (turn_of c.act_message.new.stage (g.P.Port.words c.act_message.new.port) c.act_message.new.replies) c.args.watch.now.stays c.see.new.self.stays
    acts c.see.ensures.so_far (λ is. c.see.ensures.leaves is (g.P.Port.words c.args.port.now) c.args.replies.now))
    c.act_message.ensures.acts
