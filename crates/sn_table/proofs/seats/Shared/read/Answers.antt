use Rattle.std.proofs.Common.{◌<◌, arith}
use Rattle.sn_machine.specs.Fits.{job_of, picture_of}
use Rattle.sn_table.proofs.Steps.{load_allows_at, within}
use Rattle.sn_table.proofs.seats.Shared.read.Goals as goal

pub load-requires : goal.load-requires
load-requires c =
    let t = c.args.self.now in
    let seat = c.args.seat.now in
    let l : c.args.at < t.words = within seat.place.me.0 t.words c.args.at c.requires.seat.1 seat.fits c.requires.busy c.requires.allowed in (
      c.requires.seat.0,
      omega (arith, t.count),
      load_allows_at t.words t.jobs t.table.shared.key.words t.table.shared.key.jobs t.table.shared.table_id.slots seat.place.id seat.place.me (job_of seat.place.me.0) (picture_of seat.place.me.0) c.args.at t.key_words t.key_jobs seat.bare l c.requires.busy c.requires.allowed,
    )
