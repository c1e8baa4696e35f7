use Rattle.std.proofs.Common.{◌∙◌, ◌<◌, ap, length, subst, sym, arith, true}
use Rattle.sn_clients.specs.declared.seats.Outlet.{Outlet}
use Rattle.sn_clients.specs.Answers.{end_of}
use Rattle.sn_clients.specs.Delivery.{AllWereTaken}
use Rattle.sn_clients.specs.Looping.{SameInlets}
use Rattle.sn_clients.proofs.LoopLemmas.{closed_by, closed_so, halted_closes, on_any_ok}
use Rattle.sn_clients.proofs.desk.Desk.finish.Goals as goal

pub returns-in_err-take_rest-clause-closes : goal.returns-in_err-take_rest-clause-closes
returns-in_err-take_rest-clause-closes g c = λ first sinks_first sound_first sound left_first left h.
    let n = c.take_rest.new in
    halted_closes g.R.Sink.taken g.R.Sink.faults first sinks_first n.sinks sound_first sound left_first left n.self c.from_residual.result c.in_err-take_rest.field-0.0 c.from_residual.ensures.1 c.in_err-take_rest.ensures.only
    (c.in_err-take_rest.ensures.plays first sinks_first sound_first sound left_first left true h)

pub last_boundary-requires-clause-sinks : goal.last_boundary-requires-clause-sinks
last_boundary-requires-clause-sinks g c = sym c.in_ok-take_rest.ensures.steady.clients

pub last_boundary-requires-clause-flags : goal.last_boundary-requires-clause-flags
last_boundary-requires-clause-flags g c = c.in_ok-take_rest.ensures.steady.flags ∙ sym c.in_ok-take_rest.ensures.steady.clients

pub returns-clause-closes : goal.returns-clause-closes
returns-clause-closes g c = λ first sinks_first sound_first sound left_first left h.
    let m = c.take_rest.new in
    let n = c.last_boundary.new in
    let e = c.last_boundary.ensures in
    closed_by g.R.Sink.taken g.R.Sink.faults c.last_boundary.result first sinks_first m.sinks n.sinks sound_first sound left_first left m.self n.self e.turns (ap end_of e.outlet) e.closed
    (c.in_ok-take_rest.ensures.plays first sinks_first sound_first sound left_first left true h)

pub returns-clause-none : goal.returns-clause-none
returns-clause-none g c =
    let e = c.last_boundary.ensures in
    on_any_ok c.last_boundary.result (subst (λ (o : Outlet). AllWereTaken (end_of o)) (sym e.outlet) c.in_ok-take_rest.ensures.none)

pub returns-clause-few : goal.returns-clause-few
returns-clause-few g c = omega (arith, ap length c.last_boundary.ensures.turns, c.in_ok-take_rest.ensures.steady.few)

pub returns-clause-full : goal.returns-clause-full
returns-clause-full g c = λ e. absurd ((closed_so g.R.Sink.taken g.R.Sink.faults c.take_rest.new.sinks c.last_boundary.new.sinks c.take_rest.new.self.failed.items c.last_boundary.new.self.failed.items c.take_rest.new.self.engine.running c.last_boundary.result c.last_boundary.ensures.closed).1 e)

pub returns-clause-only : goal.returns-clause-only
returns-clause-only g c = λ e. (closed_so g.R.Sink.taken g.R.Sink.faults c.take_rest.new.sinks c.last_boundary.new.sinks c.take_rest.new.self.failed.items c.last_boundary.new.self.failed.items c.take_rest.new.self.engine.running c.last_boundary.result c.last_boundary.ensures.closed).0 e

pub returns-clause-inlets : goal.returns-clause-inlets
returns-clause-inlets g c = subst (λ (o : Outlet). SameInlets (end_of c.args.self.now.outlet) (end_of o)) (sym c.last_boundary.ensures.outlet) c.take_rest.ensures.inlets

pub returns-clause-over : goal.returns-clause-over
returns-clause-over g c =
    let few : length c.last_boundary.new.self.turns.items < c.args.most = omega (arith, ap length c.last_boundary.ensures.turns, c.in_ok-take_rest.ensures.steady.few) in
    on_any_ok c.last_boundary.result few
