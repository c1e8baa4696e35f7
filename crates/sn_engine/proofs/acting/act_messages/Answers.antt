use Rattle.std.proofs.Common.{◌∙◌}
use Rattle.sn_world.specs.World.{turn_of, world_of}
use Rattle.sn_engine.proofs.KeptLemmas.{more_acts, more_asked, more_left, then_stays}
use Rattle.sn_engine.proofs.acting.act_messages.Goals as goal

pub loop-message-preserved : goal.loop-message-preserved
loop-message-preserved g c =
    let i = c.loop-message.invariant in
    let ms = c.args.messages.now in
    let place = c.loop-message.message-index in
    let m = c.message-item.result in
    let within = c.loop-message-test.true in
    let before = turn_of c.loop-message.stage (g.P.Port.words c.loop-message.port) c.loop-message.replies in
    let after = turn_of c.act_one.new.stage (g.P.Port.words c.act_one.new.port) c.act_one.new.replies in
    let acts = c.in_ok-more.ensures.acts in
    record {
      acts = more_acts c.args.from ms place m within c.message-item.is before after acts ∙ i.acts;
      asked = more_asked c.args.from ms place m within c.message-item.is before after acts c.loop-message.asked c.in_ok-more.more _ c.both-asked.ensures c.in_ok-more.ensures.asked ∙ i.asked;
      layout =
          then_stays c.args.watch.now.stays c.loop-message.watch.stays c.act_one.new.watch.stays (world_of c.args.stage.now (g.P.Port.words c.args.port.now)) (world_of c.loop-message.stage (g.P.Port.words c.loop-message.port)) (world_of c.act_one.new.stage (g.P.Port.words c.act_one.new.port))
          i.layout c.in_ok-more.ensures.layout;
      left = more_left c.args.from ms place m within c.message-item.is before after acts i.left;
      pictures = c.act_one.ensures.pictures;
      region = c.act_one.ensures.region ∙ i.region;
      len = c.act_one.ensures.len ∙ i.len;
      foot = c.act_one.ensures.port.0 ∙ i.foot;
      rest = c.act_one.ensures.port.1 ∙ i.rest;
    }
