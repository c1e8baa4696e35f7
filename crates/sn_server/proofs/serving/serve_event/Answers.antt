use Rattle.sn_server.proofs.EventLemmas.{took_worn}
use Rattle.std.proofs.Common.{inr, refl}
use Rattle.sn_server.proofs.serving.serve_event.Goals as goal

pub returns-in_err-check_worn-clause-took : goal.returns-in_err-check_worn-clause-took
returns-in_err-check_worn-clause-took g c = λ v sound_old sent_old live.
    took_worn (g.L.Link.left c.args.link.now) sound_old (g.O.Sink.taken c.args.sound.now) sent_old (g.L.Link.sent c.args.link.now) v c.args.engine.now.running c.args.framer.now c.from_residual.result c.in_err-check_worn.field-0.0
    c.from_residual.ensures.1 live c.in_err-check_worn.ensures.worn

pub returns-in_err-check_worn-clause-link_unfailed : goal.returns-in_err-check_worn-clause-link_unfailed
returns-in_err-check_worn-clause-link_unfailed g c = inr refl

pub returns-in_err-check_worn-clause-sound_unfailed : goal.returns-in_err-check_worn-clause-sound_unfailed
returns-in_err-check_worn-clause-sound_unfailed g c = inr refl
