use Rattle.sn_clients.proofs.Moves.{opens}
use Rattle.sn_clients.proofs.StopMoves.{stop_opens}
use Rattle.sn_clients.proofs.seats.Relay.open.Goals as goal

pub ruled-requires-clause-rule : goal.ruled-requires-clause-rule
ruled-requires-clause-rule c = opens

pub of_words-requires : goal.of_words-requires
of_words-requires c = stop_opens
