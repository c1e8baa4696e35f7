use Rattle.std.proofs.Common.{arith}
use Rattle.sn_table.proofs.Owing.{looked_fields}
use Rattle.sn_table.proofs.seats.Shared.look.Goals as goal

pub glance-requires-clause-few : goal.glance-requires-clause-few
glance-requires-clause-few c = omega (arith, c.args.seat.now.fits.few, c.requires.job, c.requires.seat.2)

pub invariant_of-seat : goal.invariant_of-seat
invariant_of-seat c =
    let seat = c.args.seat.now in
    let h = looked_fields seat.place.me.0 c.glance.new.place.me.0 c.args.job c.glance.result seat.job seat.paid seat.owing seat.fits seat.runs seat.owes c.glance.ensures.step in
    record { bare = c.glance.ensures.place.3; fits = h.0; runs = h.1; owes = h.2 }
