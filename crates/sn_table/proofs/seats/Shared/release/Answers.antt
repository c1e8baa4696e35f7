use Rattle.std.proofs.Common.{◌≡◌, ◌∙◌, ◌+◌, Some, refl, sym, subst, arith}
use Rattle.std.specs.Prelude.{slice_get, drop}
use Rattle.sn_machine.specs.Steps.{debts_of}
use Rattle.sn_round.specs.Jobs.{successors}
use Rattle.sn_table.specs.Kept.{OwesAs}
use Rattle.sn_table.proofs.Owing.{owes_first, owes_none, paid_fields}
use Rattle.sn_table.proofs.seats.Shared.release.Goals as goal

pub returns-in_default-clause-step : goal.returns-in_default-clause-step
returns-in_default-clause-step c =
    let seat = c.args.seat.now in
    let o = subst (λ b. OwesAs seat.place.me.0 seat.job seat.paid b) c.if-not-seat.false seat.owes in
    (owes_none seat.place.me.0 seat.job seat.paid c.args.plan.now o c.requires.plan (sym c.successor.ensures ∙ c.in_default.is), refl)

pub pay-left-requires-clause-few : goal.pay-left-requires-clause-few
pay-left-requires-clause-few c =
    let seat = c.args.seat.now in
    let o = subst (λ b. OwesAs seat.place.me.0 seat.job seat.paid b) c.if-not-seat.false seat.owes in
    let f = owes_first seat.place.me.0 seat.job seat.paid c.args.plan.now c.in-Some.next o c.requires.plan (sym c.successor.ensures ∙ c.in-Some.is) in
    omega (arith, seat.fits.few, c.requires.seat.2, f.1)

pub pay-left-requires-clause-debt : goal.pay-left-requires-clause-debt
pay-left-requires-clause-debt c =
    let seat = c.args.seat.now in
    let o = subst (λ b. OwesAs seat.place.me.0 seat.job seat.paid b) c.if-not-seat.false seat.owes in
    let f = owes_first seat.place.me.0 seat.job seat.paid c.args.plan.now c.in-Some.next o c.requires.plan (sym c.successor.ensures ∙ c.in-Some.is) in
    (seat.job, debts_of seat.job (drop (Prim.Native.Nat.suc seat.paid) (successors seat.place.me.0.worker.jobs seat.job)), f.0)

pub overflow_add-seat : goal.overflow_add-seat
overflow_add-seat c =
    let seat = c.args.seat.now in
    let o = subst (λ b. OwesAs seat.place.me.0 seat.job seat.paid b) c.if-not-seat.false seat.owes in
    let f = owes_first seat.place.me.0 seat.job seat.paid c.args.plan.now c.in-Some.next o c.requires.plan (sym c.successor.ensures ∙ c.in-Some.is) in
    omega (arith, seat.fits.few, c.requires.seat.2, f.2, c.args.self.now.few)

pub invariant_of-seat : goal.invariant_of-seat
invariant_of-seat c =
    let seat = c.args.seat.now in
    let o = subst (λ b. OwesAs seat.place.me.0 seat.job seat.paid b) c.if-not-seat.false seat.owes in
    let get : slice_get (successors seat.place.me.0.worker.jobs seat.job) seat.paid ≡ Some c.in-Some.next = subst (λ js. slice_get (successors js seat.job) seat.paid ≡ Some c.in-Some.next) c.requires.plan (sym c.successor.ensures ∙ c.in-Some.is) in
    let p = c.pay-left.ensures.step in
    let h = paid_fields seat.place.me.0 c.pay-left.new.place.me.0 seat.job seat.paid c.in-Some.next c.pay-left.result p.0 p.1 seat.fits seat.runs o p.2 p.3 get in
    record { bare = c.pay-left.ensures.place.3; fits = h.0; runs = h.1; owes = subst (λ b. OwesAs c.pay-left.new.place.me.0 seat.job (seat.paid + 1) b) (sym c.if-not-seat.false) h.2 }

pub returns-then-left-eq0-clause-below : goal.returns-then-left-eq0-clause-below
returns-then-left-eq0-clause-below c =
    let seat = c.args.seat.now in
    let o = subst (λ b. OwesAs seat.place.me.0 seat.job seat.paid b) c.if-not-seat.false seat.owes in
    let f = owes_first seat.place.me.0 seat.job seat.paid c.args.plan.now c.in-Some.next o c.requires.plan (sym c.successor.ensures ∙ c.in-Some.is) in
    omega (arith, seat.fits.few, c.requires.seat.2, f.1)
