use Rattle.std.proofs.Common.{ap}
use Rattle.sn_server.specs.PlayEvents.{performance}
use Rattle.sn_server.proofs.JoiningLemmas.{joined_events}
use Rattle.sn_server.proofs.joining.joined_pieces.Goals as goal

pub returns : goal.returns
returns c = λ s base es fs a b few. ap performance (joined_events s base es fs a b few)
