use Rattle.std.proofs.Common.{ℕ, sym, ap, ◌∙◌}
use Rattle.atomic_table.specs.declared.shared.Seat.{Seat as Place}
use Rattle.sn_machine.specs.declared.views.View.{View}
use Rattle.sn_machine.specs.Fits.{picture_of}
use Rattle.sn_machine.specs.Steps.{pictured}
use Rattle.sn_table.proofs.Repainting.{repaint}
use Rattle.sn_table.specs.declared.seats.WorkerSeat.{WorkerSeat}
use Rattle.sn_table.specs.declared.port.SeatRest.{SeatRest}
use Rattle.sn_table.specs.Answers.{view, rest_of}
use Rattle.sn_table.proofs.job.run_job.Goals as goal

pub returns-clause-of : goal.returns-clause-of
returns-clause-of g c =
    let rest = c.run.ensures.port.1 in
    let last = c.seat-1.given.1 (sym c.new-port.ensures.same_reference ∙ sym (ap (λ (r : SeatRest). r.seat) rest)) ∙ c.drop-port.ensures in
    let e = ap (λ (r : SeatRest). r.place) rest in
    let same = ap rest_of last ∙ (e ∙ ap rest_of c.new-port.ensures.same) in
    (ap (λ (p : Place ℕ View). p.table_id) same ∙ c.requires.of.0, ap (λ (p : Place ℕ View). p.me.0.size) same ∙ c.requires.of.1, ap (λ (p : Place ℕ View). p.me.0.room) same ∙ c.requires.of.2)

pub returns-clause-view : goal.returns-clause-view
returns-clause-view g c =
    let rest = c.run.ensures.port.1 in
    let last = c.seat-1.given.1 (sym c.new-port.ensures.same_reference ∙ sym (ap (λ (r : SeatRest). r.seat) rest)) ∙ c.drop-port.ensures in
    let old = c.args.seat.now in
    let same = ap (λ (r : SeatRest). r.place.me.0) rest ∙ ap (λ (s : WorkerSeat). (rest_of s).me.0) c.new-port.ensures.same in
    let drawn = c.run.ensures.words ∙ ap (λ (s : WorkerSeat). g.W.Work.outcome c.args.work.now c.args.job (picture_of (view s))) c.new-port.ensures.same in
    ap view last
    ∙ (repaint (view c.run.new.port.seat.now) (view old) (g.W.Work.outcome c.args.work.now c.args.job (picture_of (view old))) same c.run.new.port.busy drawn
    ∙ ap (λ (j : ℕ). pictured (view old) j (g.W.Work.outcome c.args.work.now c.args.job (picture_of (view old)))) c.requires.job.1)
