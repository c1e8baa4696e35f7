use Rattle.std.proofs.Common.{arith}
use Rattle.snova.proofs.ClientLemmas.{clients_fit}
use Rattle.snova.proofs.several.serve_several.Goals as goal

pub serve_many-session-requires-clause-clients : goal.serve_many-session-requires-clause-clients
serve_many-session-requires-clause-clients g c κs lives =
    let fit = clients_fit c.args.chosen.now.clients c.args.chosen.now.clients_are in
    (omega (arith, fit.0, c.in_ok-accepted.ensures.clients), omega (arith, fit.1, c.in_ok-accepted.ensures.clients))

pub serve_many-session-requires-clause-sinks : goal.serve_many-session-requires-clause-sinks
serve_many-session-requires-clause-sinks g c κs lives = omega (arith, c.in_ok-accepted.ensures.clients, c.in_ok-accepted.ensures.sinks)
