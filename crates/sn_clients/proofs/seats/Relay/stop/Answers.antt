use Rattle.std.proofs.Common.{arith}
use Rattle.sn_clients.proofs.StopMoves.{sets}
use Rattle.sn_clients.proofs.seats.Relay.stop.Goals as goal

pub store-requires : goal.store-requires
store-requires c =
    let t = c.args.self.now in
    let outlet = c.args.outlet.now in
    (c.requires.outlet.1, omega (arith, t.one_word), sets t.stop.shared.table_id.slots outlet.seat.id outlet.seat.me outlet.setter)
