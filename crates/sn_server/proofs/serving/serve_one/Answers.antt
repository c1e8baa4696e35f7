use Rattle.sn_ports.specs.Causes.{Rose}
use Rattle.sn_server.proofs.EventLemmas.{completes}
use Rattle.sn_server.proofs.serving.serve_one.Goals as goal

pub returns-clause-complete : goal.returns-clause-complete
returns-clause-complete g c =
    completes c.args.settings.now c.args.base (g.L.Link.left c.args.link.now) (g.L.Link.left c.serve_events.new.link) (g.O.Sink.taken c.args.sound.now) (g.O.Sink.taken c.serve_events.new.sound) (g.L.Link.sent c.args.link.now) (g.L.Link.sent c.serve_events.new.link)
    c.serve_events.result (Rose (g.L.Link.faults c.args.link.now) (g.L.Link.faults c.serve_events.new.link)) (Rose (g.O.Sink.faults c.args.sound.now) (g.O.Sink.faults c.serve_events.new.sound)) c.serve_events.ensures.served c.serve_events.ensures.close c.serve_events.ensures.link c.serve_events.ensures.sound
