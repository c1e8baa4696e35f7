use Rattle.std.proofs.Common.{◌≡◌, ◌∙◌, ◌+◌, ℕ, Bool, List, [], ◌∷◌, Ok, Option, length, length-append, refl, sym, ap, subst, arith}
use Rattle.sn_osc.specs.Reading.{read}
use Rattle.sn_engine.specs.Running.{Running}
use Rattle.std.proofs.lemmas.List.{length-replicate}
use Rattle.sn_clients.specs.declared.notes.Note.{Note}
use Rattle.sn_clients.specs.declared.seats.Outlet.{Outlet}
use Rattle.sn_clients.specs.declared.turns.Turn.TheVariants.{Frame}
use Rattle.sn_clients.specs.declared.playing.Halt.TheVariants as halts
use Rattle.sn_clients.specs.Answers.{end_of}
use Rattle.sn_clients.specs.Looping.{HasHalted, IsSteady, Received, SameInlets}
use Rattle.sn_clients.proofs.LoopLemmas.{halted, halts_before, halts_full, halts_in_arrival, packet_stays, playing_same, plays_note, steady_note, steady_same}
use Rattle.sn_clients.proofs.desk.Desk.take_note.Goals as goal

pub returns-in_err-found-clause-plays : goal.returns-in_err-found-clause-plays
returns-in_err-found-clause-plays g c = λ first sinks_first sound_first sound left_first left at_zero h.
    let taken = g.R.Sink.taken in
    let faults = g.R.Sink.faults in
    let sinks = c.args.sinks.now in
    let new = c.receive.new.self in
    halted taken faults first sinks_first sinks sound_first sound at_zero left_first left new c.from_residual.result halts.NoMemory c.from_residual.ensures.1
    (halts_before taken faults first sinks_first sinks sound_first sound at_zero left_first left c.args.self.now new c.in_err-found.ensures.received h)

pub returns-in-None-clause-plays : goal.returns-in-None-clause-plays
returns-in-None-clause-plays g c = λ first sinks_first sound_first sound left_first left at_zero h.
    let same = subst (λ (o : Option Note). Received c.args.self.now c.receive.new.self (Ok o)) c.in-None.is c.in_ok-found.ensures.received in
    playing_same g.R.Sink.taken g.R.Sink.faults first sinks_first c.args.sinks.now sound_first sound at_zero left_first left c.args.self.now c.receive.new.self same.0 h

pub returns-in_err-arrive-in-Some-clause-plays : goal.returns-in_err-arrive-in-Some-clause-plays
returns-in_err-arrive-in-Some-clause-plays g c = λ first sinks_first sound_first sound left_first left at_zero h.
    let taken = g.R.Sink.taken in
    let faults = g.R.Sink.faults in
    let sinks = c.args.sinks.now in
    let r = c.from_residual-in_err-arrive-in-Some in
    let got = subst (λ (o : Option Note). Received c.args.self.now c.receive.new.self (Ok o)) c.in-Some.is c.in_ok-found.ensures.received in
    halted taken faults first sinks_first sinks sound_first sound at_zero left_first left _ r.result halts.NoMemory r.ensures.1
    (halts_in_arrival taken faults first sinks_first sinks sound_first sound at_zero left_first left c.args.self.now c.receive.new.self _ c.in-Some.note got refl refl refl h)

pub returns-in_err-check_full-in-Some-clause-plays : goal.returns-in_err-check_full-in-Some-clause-plays
returns-in_err-check_full-in-Some-clause-plays g c = λ first sinks_first sound_first sound left_first left at_zero h.
    let taken = g.R.Sink.taken in
    let faults = g.R.Sink.faults in
    let sinks = c.send.new.sinks in
    let new = c.send.new.self in
    let r = c.from_residual-in_err-check_full-in-Some in
    let halt = c.in_err-check_full-in-Some.field-0.0 in
    let got = subst (λ (o : Option Note). Received c.args.self.now c.receive.new.self (Ok o)) c.in-Some.is c.in_ok-found.ensures.received in
    let plays = plays_note taken faults first sinks_first c.args.sinks.now sinks sound_first sound at_zero left_first left c.args.self.now c.receive.new.self new c.arrive.new.engine.running c.in-Some.note got c.send.ensures.turns (ap end_of c.send.ensures.outlet)
    c.in_ok-arrive-in-Some.ensures.arrived c.send.ensures.sent c.send.ensures.kept h in
    halted taken faults first sinks_first sinks sound_first sound at_zero left_first left new r.result halt r.ensures.1
    (subst (HasHalted taken faults first sinks_first sinks sound_first sound at_zero left_first left new) (sym c.in_err-check_full-in-Some.ensures.full.0)
    (halts_full taken faults first sinks_first sinks sound_first sound at_zero left_first left new plays))

pub returns-in_ok-check_full-in-Some-clause-plays : goal.returns-in_ok-check_full-in-Some-clause-plays
returns-in_ok-check_full-in-Some-clause-plays g c = λ first sinks_first sound_first sound left_first left at_zero h.
    let got = subst (λ (o : Option Note). Received c.args.self.now c.receive.new.self (Ok o)) c.in-Some.is c.in_ok-found.ensures.received in
    plays_note g.R.Sink.taken g.R.Sink.faults first sinks_first c.args.sinks.now c.send.new.sinks sound_first sound at_zero left_first left c.args.self.now c.receive.new.self c.send.new.self c.arrive.new.engine.running c.in-Some.note got c.send.ensures.turns
    (ap end_of c.send.ensures.outlet) c.in_ok-arrive-in-Some.ensures.arrived c.send.ensures.sent c.send.ensures.kept h

-- ---- what the calls need

pub arrive-requires-clause-settled : goal.arrive-requires-clause-settled
arrive-requires-clause-settled g c =
    let got = subst (λ (o : Option Note). Received c.args.self.now c.receive.new.self (Ok o)) c.in-Some.is c.in_ok-found.ensures.received in
    ap (λ (r : Running). r.standing) got.engine ∙ c.requires.steady.settled

pub arrive-requires-clause-block : goal.arrive-requires-clause-block
arrive-requires-clause-block g c =
    let got = subst (λ (o : Option Note). Received c.args.self.now c.receive.new.self (Ok o)) c.in-Some.is c.in_ok-found.ensures.received in
    omega (arith, ap (λ (r : Running). r.block) got.engine, c.requires.steady.block, c.requires.steady.few, c.ranges.most)

pub arrive-requires-clause-puts : goal.arrive-requires-clause-puts
arrive-requires-clause-puts g c =
    let got = subst (λ (o : Option Note). Received c.args.self.now c.receive.new.self (Ok o)) c.in-Some.is c.in_ok-found.ensures.received in
    omega (arith, ap (λ (r : Running). r.waiting.puts) got.engine, c.requires.steady.puts, c.requires.steady.few, c.ranges.most)

pub send-requires-clause-sinks : goal.send-requires-clause-sinks
send-requires-clause-sinks g c =
    let got = subst (λ (o : Option Note). Received c.args.self.now c.receive.new.self (Ok o)) c.in-Some.is c.in_ok-found.ensures.received in
    let note = c.in-Some.note in
    let many : length c.arrive.new.engine.running.replies ≡ length c.args.sinks.now = ap (λ (r : Running). length r.replies) c.in_ok-arrive-in-Some.ensures.arrived ∙ (packet_stays note.client (read note.frame.bytes) c.receive.new.self.engine.running).clients
    ∙ ap (λ (r : Running). length r.replies) got.engine ∙ c.requires.steady.clients in
    sym many

pub send-requires-clause-flags : goal.send-requires-clause-flags
send-requires-clause-flags g c =
    let got = subst (λ (o : Option Note). Received c.args.self.now c.receive.new.self (Ok o)) c.in-Some.is c.in_ok-found.ensures.received in
    let note = c.in-Some.note in
    let many : length c.arrive.new.engine.running.replies ≡ length c.args.sinks.now = ap (λ (r : Running). length r.replies) c.in_ok-arrive-in-Some.ensures.arrived ∙ (packet_stays note.client (read note.frame.bytes) c.receive.new.self.engine.running).clients
    ∙ ap (λ (r : Running). length r.replies) got.engine ∙ c.requires.steady.clients in
    ap length got.failed ∙ c.requires.steady.flags ∙ sym many

pub check_full-requires : goal.check_full-requires
check_full-requires g c =
    let got = subst (λ (o : Option Note). Received c.args.self.now c.receive.new.self (Ok o)) c.in-Some.is c.in_ok-found.ensures.received in
    record { few = omega (arith, ap length c.send.ensures.turns, ap length got.turns, length-append c.args.self.now.turns.items (Frame c.in-Some.note.client ∷ []), c.requires.steady.few) }

-- ---- what it leaves

pub returns-in-None-clause-steady : goal.returns-in-None-clause-steady
returns-in-None-clause-steady g c =
    let same = subst (λ (o : Option Note). Received c.args.self.now c.receive.new.self (Ok o)) c.in-None.is c.in_ok-found.ensures.received in
    steady_same c.args.most (length c.args.sinks.now) c.args.self.now c.receive.new.self c.requires.steady same.0

pub returns-in_ok-check_full-in-Some-clause-steady : goal.returns-in_ok-check_full-in-Some-clause-steady
returns-in_ok-check_full-in-Some-clause-steady g c =
    let got = subst (λ (o : Option Note). Received c.args.self.now c.receive.new.self (Ok o)) c.in-Some.is c.in_ok-found.ensures.received in
    let note = c.in-Some.note in
    let mid = c.receive.new.self.engine.running in
    let new = c.send.new.self in
    let kept = c.send.ensures.kept in
    let came = c.in_ok-arrive-in-Some.ensures.arrived in
    let stays = packet_stays note.client (read note.frame.bytes) mid in
    let sent = c.send.ensures.sent in
    subst (λ (n : ℕ). IsSteady c.args.most n new) (sym sent.sinks)
    (steady_note c.args.most (length c.args.sinks.now) c.args.self.now new note c.requires.steady (c.send.ensures.turns ∙ got.turns)
    (ap (λ (r : Running). r.standing) kept ∙ ap (λ (r : Running). r.standing) came ∙ stays.standing ∙ ap (λ (r : Running). r.standing) got.engine)
    (ap (λ (r : Running). r.block) kept ∙ ap (λ (r : Running). r.block) came ∙ stays.block ∙ ap (λ (r : Running). r.block) got.engine)
    (omega (arith, ap (λ (r : Running). r.waiting.puts) kept, c.in_ok-arrive-in-Some.ensures.puts, ap (λ (r : Running). r.waiting.puts) got.engine))
    (ap (λ (r : Running). length r.replies) kept ∙ length-replicate (length c.arrive.new.engine.running.replies) [] ∙ ap (λ (r : Running). length r.replies) came ∙ stays.clients ∙ ap (λ (r : Running). length r.replies) got.engine)
    (sent.flags ∙ sym c.requires.steady.flags) c.in_ok-check_full-in-Some.ensures.ok)

pub returns-in_err-check_full-in-Some-clause-inlets : goal.returns-in_err-check_full-in-Some-clause-inlets
returns-in_err-check_full-in-Some-clause-inlets g c = subst (λ (o : Outlet). SameInlets (end_of c.args.self.now.outlet) (end_of o)) (sym c.send.ensures.outlet) c.receive.ensures.inlets

pub returns-in_ok-check_full-in-Some-clause-inlets : goal.returns-in_ok-check_full-in-Some-clause-inlets
returns-in_ok-check_full-in-Some-clause-inlets g c = subst (λ (o : Outlet). SameInlets (end_of c.args.self.now.outlet) (end_of o)) (sym c.send.ensures.outlet) c.receive.ensures.inlets
