use Rattle.std.proofs.Common.{arith}
use Rattle.crossbeam_queue.specs.Passes.{view}
use Rattle.sn_clients.proofs.Moves.{seats}
use Rattle.sn_clients.proofs.StopMoves.{splits}
use Rattle.sn_clients.proofs.seats.Relay.make_inlet.Goals as goal

pub another-pass-requires-clause-rule : goal.another-pass-requires-clause-rule
another-pass-requires-clause-rule c = seats c.args.outlet.now.pass.id (view c.args.outlet.now.pass) c.args.outlet.now.first

pub split_seat-seat-requires : goal.split_seat-seat-requires
split_seat-seat-requires c =
    let t = c.args.self.now in
    let seat = c.args.outlet.now.seat in
    (c.requires.outlet.1, omega (arith, t.one_word), splits seat.id seat.me.0)
