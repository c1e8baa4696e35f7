use Rattle.std.proofs.Common.{arith}
use Rattle.sn_clients.proofs.StopMoves.{looks}
use Rattle.sn_clients.proofs.seats.Relay.stopped.Goals as goal

pub load-requires : goal.load-requires
load-requires c =
    let t = c.args.self.now in
    let inlet = c.args.inlet.now in
    (c.requires.inlet.1, omega (arith, t.one_word), looks t.stop.shared.table_id.slots inlet.seat.id inlet.seat.me inlet.finder)
