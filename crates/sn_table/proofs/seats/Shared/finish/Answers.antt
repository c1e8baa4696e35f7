use Rattle.std.proofs.Common.{refl, arith}
use Rattle.sn_machine.specs.Fits.{picture_of}
use Rattle.sn_table.proofs.Steps.{end_allows_at}
use Rattle.sn_table.proofs.seats.Shared.finish.Goals as goal

pub store-requires : goal.store-requires
store-requires c =
    let t = c.args.self.now in
    let place = c.args.place.now in (
      c.requires.place.0,
      omega (arith, t.count, c.requires.few),
      end_allows_at t.words t.jobs t.table.shared.key.words t.table.shared.key.jobs t.table.shared.table_id.slots place.id place.me c.args.job c.args.job (picture_of place.me.0) t.key_words t.key_jobs c.requires.place.3 c.requires.place.1 refl c.requires.may,
    )
