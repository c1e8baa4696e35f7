use Rattle.sn_reply.proofs.FrameLaws.{begins_refl}
use Rattle.sn_render.specs.Play.{to_first}
use Rattle.sn_server.proofs.receiving.send_replies.Goals as goal

pub returns-in-Ok-clause-front : goal.returns-in-Ok-clause-front
returns-in-Ok-clause-front g c =
    let said = to_first c.args.engine.now.running.replies in
    (said, c.in-Ok.ensures.sent, begins_refl said)
