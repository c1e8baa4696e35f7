use Rattle.std.proofs.Common.{◌≡◌, subst, arith}
use Rattle.sn_machine.specs.Fits.{job_of, picture_of}
use Rattle.sn_machine.specs.Steps.{CanEnd}
use Rattle.sn_table.proofs.Owing.{end_fields}
use Rattle.sn_table.proofs.seats.Shared.end.Goals as goal

same : (c : goal.After-finish-arg-1) → job_of c.args.seat.now.place.me.0 ≡ c.args.seat.now.job
same c = c.args.seat.now.runs (job_of c.args.seat.now.place.me.0) (picture_of c.args.seat.now.place.me.0) c.requires.may.runs

pub finish-requires-clause-few : goal.finish-requires-clause-few
finish-requires-clause-few c =
    let seat = c.args.seat.now in
    let e = same c in
    let l = (seat.fits.running (job_of seat.place.me.0) (picture_of seat.place.me.0) c.requires.may.runs).0 in
    omega (arith, seat.fits.few, c.requires.seat.2)

pub finish-requires-clause-may : goal.finish-requires-clause-may
finish-requires-clause-may c = subst (λ j. CanEnd c.args.seat.now.place.me.0 j (picture_of c.args.seat.now.place.me.0)) (same c) c.requires.may

pub invariant_of-seat : goal.invariant_of-seat
invariant_of-seat c =
    let seat = c.args.seat.now in
    let e = seat.runs (job_of seat.place.me.0) (picture_of seat.place.me.0) c.requires.may.runs in
    let h = end_fields seat.place.me.0 c.finish.new.place.me.0 seat.job seat.fits (subst (λ j. CanEnd seat.place.me.0 j (picture_of seat.place.me.0)) e c.requires.may) c.finish.ensures.step in
    record { bare = c.finish.ensures.place.3; fits = h.0; runs = h.1; owes = h.2 }
