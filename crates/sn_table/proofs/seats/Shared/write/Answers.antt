use Rattle.std.proofs.Common.{◌<◌, arith, refl, set, sym, ap, ◌∙◌, subst, length-set}
use Rattle.sn_machine.specs.declared.views.View.{View}
use Rattle.sn_machine.specs.Fits.{Fits, foot_of, job_of, picture_of}
use Rattle.sn_machine.specs.Steps.{pictured}
use Rattle.sn_machine.proofs.Fitting.{fits_pictured}
use Rattle.sn_machine.proofs.Waits.{same_job}
use Rattle.sn_table.specs.Kept.{RunsAs, OwesAs}
use Rattle.sn_machine.proofs.Stores.{touches_written}
use Rattle.sn_table.proofs.Steps.{store_allows_at, within}
use Rattle.sn_table.proofs.seats.Shared.write.Goals as goal

pub store-requires : goal.store-requires
store-requires c =
    let t = c.args.self.now in
    let seat = c.args.seat.now in
    let l : c.args.at < t.words = within seat.place.me.0 t.words c.args.at c.requires.seat.1 seat.fits c.requires.busy (touches_written (foot_of seat.place.me.0) c.args.at c.requires.allowed) in (
      c.requires.seat.0,
      omega (arith, t.count),
      store_allows_at t.words t.jobs t.table.shared.key.words t.table.shared.key.jobs t.table.shared.table_id.slots seat.place.id seat.place.me (job_of seat.place.me.0) (picture_of seat.place.me.0) c.args.at c.args.value t.key_words t.key_jobs seat.bare l
          (record { runs = c.requires.busy; writes = c.requires.allowed }),
    )

pub invariant_of-seat : goal.invariant_of-seat
invariant_of-seat c =
    let seat = c.args.seat.now in
    let v = seat.place.me.0 in
    let now = c.store.ensures.2 (job_of v) (picture_of v) c.requires.busy in
    let r = seat.fits.running (job_of v) (picture_of v) c.requires.busy in
    let f = fits_pictured v (job_of v) (set (picture_of v) c.args.at c.args.value) seat.fits r.0 (length-set (picture_of v) c.args.at c.args.value ∙ r.1) in
    let e = sym (ap (λ m. m.0) now) in
    record {
      bare = ap (λ m. m.1) now ∙ seat.bare;
      fits = subst Fits e f;
      runs = subst (λ (w : View). RunsAs w seat.job) e (λ k p runs. sym (same_job (pictured v (job_of v) (set (picture_of v) c.args.at c.args.value)).worker.runs (job_of v) k (set (picture_of v) c.args.at c.args.value) p refl runs) ∙ seat.runs (job_of v) (picture_of v) c.requires.busy);
      owes = subst (λ (w : View). OwesAs w seat.job seat.paid seat.owing) e seat.owes;
    }
