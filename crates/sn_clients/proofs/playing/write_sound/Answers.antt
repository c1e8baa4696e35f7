use Rattle.sn_reply.proofs.FrameLaws.{begins_refl}
use Rattle.sn_clients.proofs.playing.write_sound.Goals as goal

pub returns-in-Ok-clause-front : goal.returns-in-Ok-clause-front
returns-in-Ok-clause-front g c =
    let made = c.args.engine.now.running.sound in
    (made, c.in-Ok.ensures.taken, begins_refl made)
