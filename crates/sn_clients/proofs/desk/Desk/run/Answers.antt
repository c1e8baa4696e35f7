use Rattle.std.proofs.Common.{◌∙◌, ℕ, Ok, ap, refl, subst, sym, false, true}
use Rattle.sn_ports.specs.Causes.{Rose}
use Rattle.sn_clients.specs.declared.playing.Halt.TheVariants as halts
use Rattle.sn_clients.specs.declared.seats.Outlet.{Outlet}
use Rattle.sn_clients.specs.Answers.{IsOutletOf, end_of, has_stopped}
use Rattle.sn_clients.specs.Looping.{CountedAt, SameInlets}
use Rattle.sn_clients.proofs.FaultLemmas.{counted_none, counted_not, counted_so}
use Rattle.sn_clients.proofs.LoopLemmas.{asked_more, asked_zero, halts_before, inlets_both, no_sound_fault, on_any_ok, runs_halted, runs_rest, same_inlets}
use Rattle.sn_clients.proofs.desk.Desk.run.Goals as goal

pub loop-init : goal.loop-init
loop-init g c = record { outlet = c.requires.outlet; plays = λ first sinks_first sound_first left_first h. h; steady = c.requires.steady; inlets = same_inlets (end_of c.args.self.now.outlet); stopped = refl; zeros = refl; still = refl }

pub loop-preserved : goal.loop-preserved
loop-preserved g c =
    let i = c.loop.invariant in
    let e = c.in_ok-take_notes.ensures in
    let a = c.in_ok-more.ensures in
    let n = c.ask.new in
    let sound = g.O.Sink.taken c.loop.sound in
    let left = g.T.Pulse.left c.loop.pulse in
    record {
      outlet = subst (λ (o : Outlet). IsOutletOf c.args.relay.now o) (sym a.outlet) e.outlet;
      plays = λ first sinks_first sound_first left_first h. asked_more g.R.Sink.taken g.R.Sink.faults first sinks_first n.sinks sound_first (g.O.Sink.taken n.sound) left_first (g.T.Pulse.left n.pulse) n.self c.in_ok-more.more
          (a.plays first sinks_first sound_first left_first (e.plays first sinks_first sound_first sound left_first left false (i.plays first sinks_first sound_first left_first h))) c.if-not-more.false;
      steady = a.steady;
      inlets = subst (λ (o : Outlet). SameInlets (end_of c.args.self.now.outlet) (end_of o)) (sym a.outlet) (inlets_both (end_of c.args.self.now.outlet) (end_of c.loop.self.outlet) (end_of c.take_notes.new.self.outlet) i.inlets e.inlets);
      stopped = ap has_stopped a.outlet ∙ e.stopped ∙ i.stopped;
      zeros = a.others (ap Ok c.if-not-more.false) ∙ i.zeros;
      still = a.counted ∙ i.still;
    }

-- ---- no reader has begun

pub returns-in_err-wait_for_begin-clause-plays : goal.returns-in_err-wait_for_begin-clause-plays
returns-in_err-wait_for_begin-clause-plays g c = λ first sinks_first sound_first left_first h.
    let taken = g.R.Sink.taken in
    let faults = g.R.Sink.faults in
    let sinks = c.args.sinks.now in
    let sound = g.O.Sink.taken c.args.sound.now in
    let left = g.T.Pulse.left c.args.pulse.now in
    let zeros = g.T.Pulse.zeros c.args.pulse.now in
    let desk = c.args.self.now in
    runs_halted taken faults first sinks_first sinks sound_first sound false left_first left zeros zeros desk c.from_residual.result halts.NoMemory c.from_residual.ensures.1 refl
    (halts_before taken faults first sinks_first sinks sound_first sound false left_first left desk desk (record { engine = refl; failed = refl; turns = refl; end = refl }) h)

pub returns-in_err-wait_for_begin-clause-inlets : goal.returns-in_err-wait_for_begin-clause-inlets
returns-in_err-wait_for_begin-clause-inlets g c = same_inlets (end_of c.args.self.now.outlet)

pub returns-in_err-wait_for_begin-clause-counted : goal.returns-in_err-wait_for_begin-clause-counted
returns-in_err-wait_for_begin-clause-counted g c =
    let before = g.O.Sink.faults c.args.sound.now in
    counted_so c.from_residual.result halts.NoMemory before before c.from_residual.ensures.1 refl

-- ---- an end among the notes

pub returns-in_err-take_notes-clause-plays : goal.returns-in_err-take_notes-clause-plays
returns-in_err-take_notes-clause-plays g c = λ first sinks_first sound_first left_first h.
    let n = c.take_notes.new in
    let r = c.from_residual-in_err-take_notes in
    let sound = g.O.Sink.taken c.loop.sound in
    let left = g.T.Pulse.left c.loop.pulse in
    runs_halted g.R.Sink.taken g.R.Sink.faults first sinks_first n.sinks sound_first sound false left_first left (g.T.Pulse.zeros c.args.pulse.now) (g.T.Pulse.zeros c.loop.pulse) n.self r.result c.in_err-take_notes.field-0.0 r.ensures.1 c.loop.invariant.zeros
    (c.in_err-take_notes.ensures.plays first sinks_first sound_first sound left_first left false (c.loop.invariant.plays first sinks_first sound_first left_first h))

pub returns-in_err-take_notes-clause-inlets : goal.returns-in_err-take_notes-clause-inlets
returns-in_err-take_notes-clause-inlets g c = inlets_both (end_of c.args.self.now.outlet) (end_of c.loop.self.outlet) (end_of c.take_notes.new.self.outlet) c.loop.invariant.inlets c.take_notes.ensures.inlets

pub returns-in_err-take_notes-clause-counted : goal.returns-in_err-take_notes-clause-counted
returns-in_err-take_notes-clause-counted g c =
    let r = c.from_residual-in_err-take_notes in
    let halt = c.in_err-take_notes.field-0.0 in
    let before = g.O.Sink.faults c.args.sound.now in
    let now = g.O.Sink.faults c.loop.sound in
    counted_so r.result halt before now r.ensures.1 (counted_none halt before now c.in_err-take_notes.ensures.only.0 c.loop.invariant.still)

-- ---- an end among the blocks

pub returns-in_err-more-clause-plays : goal.returns-in_err-more-clause-plays
returns-in_err-more-clause-plays g c = λ first sinks_first sound_first left_first h.
    let e = c.in_ok-take_notes.ensures in
    let n = c.ask.new in
    let r = c.from_residual-in_err-more in
    let sound = g.O.Sink.taken c.loop.sound in
    let left = g.T.Pulse.left c.loop.pulse in
    runs_halted g.R.Sink.taken g.R.Sink.faults first sinks_first n.sinks sound_first (g.O.Sink.taken n.sound) false left_first (g.T.Pulse.left n.pulse) (g.T.Pulse.zeros c.args.pulse.now) (g.T.Pulse.zeros n.pulse) n.self r.result c.in_err-more.field-0.0 r.ensures.1
    (c.in_err-more.ensures.unasked ∙ c.loop.invariant.zeros)
    (c.in_err-more.ensures.plays first sinks_first sound_first left_first (e.plays first sinks_first sound_first sound left_first left false (c.loop.invariant.plays first sinks_first sound_first left_first h)))

pub returns-in_err-more-clause-outlet : goal.returns-in_err-more-clause-outlet
returns-in_err-more-clause-outlet g c = subst (λ (o : Outlet). IsOutletOf c.args.relay.now o) (sym c.ask.ensures.outlet) c.take_notes.ensures.outlet

pub returns-in_err-more-clause-inlets : goal.returns-in_err-more-clause-inlets
returns-in_err-more-clause-inlets g c = subst (λ (o : Outlet). SameInlets (end_of c.args.self.now.outlet) (end_of o)) (sym c.ask.ensures.outlet)
    (inlets_both (end_of c.args.self.now.outlet) (end_of c.loop.self.outlet) (end_of c.take_notes.new.self.outlet) c.loop.invariant.inlets c.take_notes.ensures.inlets)

pub returns-in_err-more-clause-stopped : goal.returns-in_err-more-clause-stopped
returns-in_err-more-clause-stopped g c = ap has_stopped c.ask.ensures.outlet ∙ c.take_notes.ensures.stopped ∙ c.loop.invariant.stopped

pub returns-in_err-more-clause-counted : goal.returns-in_err-more-clause-counted
returns-in_err-more-clause-counted g c =
    let r = c.from_residual-in_err-more in
    let halt = c.in_err-more.field-0.0 in
    let now = g.O.Sink.faults c.ask.new.sound in
    counted_so r.result halt (g.O.Sink.faults c.args.sound.now) now r.ensures.1 (subst (λ (before : ℕ). CountedAt halt before now) c.loop.invariant.still c.in_err-more.ensures.counted)

-- ---- the 0 of the pulse

pub take_rest-requires-clause-outlet : goal.take_rest-requires-clause-outlet
take_rest-requires-clause-outlet g c = subst (λ (o : Outlet). IsOutletOf c.args.relay.now o) (sym c.ask.ensures.outlet) c.take_notes.ensures.outlet

pub returns-then-not-more-clause-plays : goal.returns-then-not-more-clause-plays
returns-then-not-more-clause-plays g c = λ first sinks_first sound_first left_first h.
    let e = c.in_ok-take_notes.ensures in
    let a = c.in_ok-more.ensures in
    let m = c.ask.new in
    let n = c.take_rest.new in
    let sound = g.O.Sink.taken c.loop.sound in
    let left = g.T.Pulse.left c.loop.pulse in
    let later = g.O.Sink.taken m.sound in
    let next = g.T.Pulse.left m.pulse in
    let rose = subst (λ (k : ℕ). Rose k (g.T.Pulse.zeros m.pulse)) c.loop.invariant.zeros (c.in_ok-more.ensures.zero (ap Ok c.if-not-more.true)) in
    runs_rest g.R.Sink.taken g.R.Sink.faults first sinks_first n.sinks sound_first later left_first next (g.T.Pulse.zeros c.args.pulse.now) (g.T.Pulse.zeros m.pulse) n.self c.take_rest.result rose
    (c.take_rest.ensures.plays first sinks_first sound_first later left_first next true
    (asked_zero g.R.Sink.taken g.R.Sink.faults first sinks_first m.sinks sound_first later left_first next m.self c.in_ok-more.more
    (a.plays first sinks_first sound_first left_first (e.plays first sinks_first sound_first sound left_first left false (c.loop.invariant.plays first sinks_first sound_first left_first h))) c.if-not-more.true))

pub returns-then-not-more-clause-zero : goal.returns-then-not-more-clause-zero
returns-then-not-more-clause-zero g c =
    let rose = subst (λ (n : ℕ). Rose n (g.T.Pulse.zeros c.ask.new.pulse)) c.loop.invariant.zeros (c.in_ok-more.ensures.zero (ap Ok c.if-not-more.true)) in
    on_any_ok c.take_rest.result rose

pub returns-then-not-more-clause-counted : goal.returns-then-not-more-clause-counted
returns-then-not-more-clause-counted g c =
    counted_not c.take_rest.result (g.O.Sink.faults c.args.sound.now) (g.O.Sink.faults c.ask.new.sound) (no_sound_fault c.take_rest.result c.take_rest.ensures.only) (c.in_ok-more.ensures.counted ∙ c.loop.invariant.still)

pub returns-then-not-more-clause-inlets : goal.returns-then-not-more-clause-inlets
returns-then-not-more-clause-inlets g c =
    let first = end_of c.args.self.now.outlet in
    let mid = end_of c.take_notes.new.self.outlet in
    let before = inlets_both first (end_of c.loop.self.outlet) mid c.loop.invariant.inlets c.take_notes.ensures.inlets in
    inlets_both first (end_of c.ask.new.self.outlet) (end_of c.take_rest.new.self.outlet)
    (subst (λ (o : Outlet). SameInlets first (end_of o)) (sym c.ask.ensures.outlet) before) c.take_rest.ensures.inlets

pub returns-then-not-more-clause-stopped : goal.returns-then-not-more-clause-stopped
returns-then-not-more-clause-stopped g c = c.take_rest.ensures.stopped ∙ ap has_stopped c.ask.ensures.outlet ∙ c.take_notes.ensures.stopped ∙ c.loop.invariant.stopped
