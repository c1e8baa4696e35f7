use Rattle.std.proofs.Common.{arith}
use Rattle.sn_table.proofs.Steps.{join_allows}
use Rattle.sn_table.proofs.seats.Shared.join.Goals as goal

pub join_seat-requires : goal.join_seat-requires
join_seat-requires c =
    let t = c.args.self.now in
    let main = c.args.main.now in
    let worker = c.args.worker in
    (c.requires.main.0, c.requires.worker.0, worker.bare, omega (arith, t.count, t.some), join_allows t.table.shared.key.words t.table.shared.key.jobs main.place.id main.place.me.0 worker.place.id worker.place.me.0 main.first c.requires.may)
