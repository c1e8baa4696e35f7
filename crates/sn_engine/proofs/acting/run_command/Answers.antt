use Rattle.sn_osc.specs.Shape.{message_of}
use Rattle.sn_reply.proofs.Sending.{answerable-address}
use Rattle.sn_engine.proofs.acting.run_command.Goals as goal

pub push-requires : goal.push-requires
push-requires g c =
    let address = answerable-address (message_of c.args.message.now) c.requires.message in
    c.in_ok-refusal.ensures.sendable address.0 address.1
