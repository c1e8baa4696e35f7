use Rattle.std.proofs.Common.{rules}
use Rattle.sn_server.specs.Served.{GivesEnd}
use Rattle.sn_server.proofs.EventLemmas.{is_opened, opened_gives, serves_nothing}
use Rattle.sn_server.proofs.serving.serve_events.Goals as goal

pub returns-in_default-clause-served : goal.returns-in_default-clause-served
returns-in_default-clause-served g c = serves_nothing c.args.settings.now c.args.base (g.L.Link.left c.args.link.now) (g.O.Sink.taken c.args.sound.now) (g.L.Link.sent c.args.link.now)

pub take_events-requires : goal.take_events-requires
take_events-requires g c = (search rules, (search rules, is_opened c.args.settings.now c.args.base c.in-Ok.engine.running c.in-Ok.ensures.running))

pub returns-clause-served : goal.returns-clause-served
returns-clause-served g c = opened_gives c.args.settings.now c.args.base c.in-Ok.engine.running (λ s base. GivesEnd s base (g.L.Link.left c.args.link.now) (g.L.Link.left c.take_events.new.link) (g.O.Sink.taken c.args.sound.now) (g.O.Sink.taken c.take_events.new.sound) (g.L.Link.sent c.args.link.now) (g.L.Link.sent c.take_events.new.link) c.take_events.result) c.in-Ok.ensures.running c.take_events.ensures.served
