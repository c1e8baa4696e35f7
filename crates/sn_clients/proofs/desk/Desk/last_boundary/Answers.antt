use Rattle.std.proofs.Common.{◌∙◌, subst, sym}
use Rattle.sn_engine.specs.Running.{Running}
use Rattle.sn_clients.specs.Written.{AllSend}
use Rattle.sn_clients.proofs.LoopLemmas.{closed_not}
use Rattle.sn_clients.proofs.desk.Desk.last_boundary.Goals as goal

pub returns-in_err-flow-clause-closed : goal.returns-in_err-flow-clause-closed
returns-in_err-flow-clause-closed g c = closed_not g.R.Sink.taken g.R.Sink.faults c.args.sinks.now c.args.self.now.failed.items c.args.self.now.engine.running c.from_residual.result c.from_residual.ensures.1

pub send-requires-clause-sinks : goal.send-requires-clause-sinks
send-requires-clause-sinks g c = c.requires.sinks ∙ sym c.boundary.ensures.clients

pub send-requires-clause-flags : goal.send-requires-clause-flags
send-requires-clause-flags g c = c.requires.flags ∙ sym c.boundary.ensures.clients

pub returns-in-On-clause-closed : goal.returns-in-On-clause-closed
returns-in-On-clause-closed g c = record {
  flow_is = sym c.in_ok-flow.ensures.flow ∙ c.in-On.is;
  replies = subst (λ (q : Running). AllSend g.R.Sink.taken g.R.Sink.faults c.args.sinks.now c.send.new.sinks c.args.self.now.failed.items c.send.new.self.failed.items q.replies) c.in_ok-flow.ensures.ok c.send.ensures.sent;
}

pub returns-in-Quit-clause-closed : goal.returns-in-Quit-clause-closed
returns-in-Quit-clause-closed g c = record {
  flow_is = sym c.in_ok-flow.ensures.flow ∙ c.in-Quit.is;
  replies = subst (λ (q : Running). AllSend g.R.Sink.taken g.R.Sink.faults c.args.sinks.now c.send.new.sinks c.args.self.now.failed.items c.send.new.self.failed.items q.replies) c.in_ok-flow.ensures.ok c.send.ensures.sent;
}
