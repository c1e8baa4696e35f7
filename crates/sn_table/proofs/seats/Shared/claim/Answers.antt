use Rattle.std.proofs.Common.{sym, arith, true≢false}
use Rattle.sn_table.proofs.Owing.{got_fields}
use Rattle.sn_table.proofs.seats.Shared.claim.Goals as goal

pub take-word-requires-clause-few : goal.take-word-requires-clause-few
take-word-requires-clause-few c = omega (arith, c.args.seat.now.fits.few, c.requires.may.job, c.requires.seat.2)

pub invariant_of-seat : goal.invariant_of-seat
invariant_of-seat c =
    let seat = c.args.seat.now in
    let h = got_fields seat.place.me.0 c.take-word.new.place.me.0 c.args.job c.take-word.result seat.fits c.requires.may c.if-word-eq0.true c.take-word.ensures.step in
    record { bare = c.take-word.ensures.place.3; fits = h.0; runs = h.1; owes = ((λ e. absurd (true≢false (sym e))), (λ _. h.2)) }
