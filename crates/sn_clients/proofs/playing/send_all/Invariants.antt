-- The first clients were sent what they were to be sent, and nothing is left of it.
use Rattle.std.proofs.Common.{◌≡◌}
use Rattle.sn_clients.proofs.SendLemmas.{IsSending, cleared}
use Rattle.sn_clients.proofs.playing.send_all.Given as goal

abbrev pub invariant-loop-client : goal.invariant-loop-client
invariant-loop-client g l = record {
  engine : l.engine.running ≡ record l.fn.engine.running { replies = cleared l.client l.fn.engine.running.replies };
  sending : IsSending g.R.Sink.taken g.R.Sink.faults l.fn.sinks l.sinks l.fn.failed l.failed l.fn.engine.running.replies l.client;
}
