use Rattle.std.proofs.Common.{◌≡◌, ◌∙◌, ◌++◌, ◌∷◌, [], ◌<◌, ℕ, false, List, Ok, length, length-append, refl, sym, ap, subst, arith}
use Rattle.sn_clients.specs.declared.playing.Halt.{Halt}
use Rattle.sn_clients.specs.declared.playing.Halt.TheVariants as halts
use Rattle.sn_clients.specs.declared.turns.Turn.{Turn}
use Rattle.sn_clients.specs.declared.turns.Turn.TheVariants.{Ticks}
use Rattle.sn_clients.specs.Answers.{end_of}
use Rattle.sn_clients.specs.Looping.{CountedAt, HasHalted, IsSteady}
use Rattle.sn_clients.specs.Pulses.{Gives}
use Rattle.sn_clients.proofs.FaultLemmas.{counted_so}
use Rattle.sn_clients.proofs.LoopLemmas.{halted_asked, halts_before, halts_full, halts_in_blocks, on_any_err, plays_blocks, plays_zero, steady_blocks, steady_same}
use Rattle.sn_clients.proofs.desk.Desk.ask.Goals as goal

pub returns-in_err-make_room-clause-plays : goal.returns-in_err-make_room-clause-plays
returns-in_err-make_room-clause-plays g c = λ first sinks_first sound_first left_first h.
    let taken = g.R.Sink.taken in
    let faults = g.R.Sink.faults in
    let sinks = c.args.sinks.now in
    let sound = g.O.Sink.taken c.args.sound.now in
    let left = g.T.Pulse.left c.args.pulse.now in
    halted_asked taken faults first sinks_first sinks sound_first sound left_first left _ c.from_residual.result halts.NoMemory c.from_residual.ensures.1
    (halts_before taken faults first sinks_first sinks sound_first sound false left_first left c.args.self.now _ (record { engine = refl; failed = refl; turns = c.make_room.ensures.same; end = refl }) h)

pub returns-then-count-eq0-clause-plays : goal.returns-then-count-eq0-clause-plays
returns-then-count-eq0-clause-plays g c = λ first sinks_first sound_first left_first h.
    let left = g.T.Pulse.left c.args.pulse.now in
    let next = g.T.Pulse.left c.next-count.new.self in
    let zero : c.next-count.result ≡ 0 = omega (arith, c.if-count-eq0.true) in
    plays_zero g.R.Sink.taken g.R.Sink.faults first sinks_first c.args.sinks.now sound_first (g.O.Sink.taken c.args.sound.now) left_first left next c.args.self.now _ (record { engine = refl; failed = refl; turns = c.make_room.ensures.same; end = refl })
    (subst (Gives left next) zero c.next-count.ensures.left) h

pub returns-in_err-do_blocks-clause-plays : goal.returns-in_err-do_blocks-clause-plays
returns-in_err-do_blocks-clause-plays g c = λ first sinks_first sound_first left_first h.
    let taken = g.R.Sink.taken in
    let faults = g.R.Sink.faults in
    let n : ℕ = c.next-count.result in
    let d = c.do_blocks.new in
    let sound = g.O.Sink.taken d.sound in
    let left = g.T.Pulse.left c.args.pulse.now in
    let next = g.T.Pulse.left c.next-count.new.self in
    let r = c.from_residual-in_err-do_blocks in
    let halt = c.in_err-do_blocks.field-0.0 in
    let turned = c.do_blocks.ensures.turns ∙ (c.put_turn.ensures ∙ ap (λ (ts : List Turn). ts ++ Ticks n ∷ []) c.make_room.ensures.same) in
    halted_asked taken faults first sinks_first d.sinks sound_first sound left_first next d.self r.result halt r.ensures.1
    (halts_in_blocks taken faults first sinks_first d.sinks sound_first sound left_first left next c.args.self.now d.self n h.acts halt h.done h.goes_on turned (ap end_of c.do_blocks.ensures.outlet) (omega (arith, c.if-count-eq0.false)) c.next-count.ensures.left
    (c.in_err-do_blocks.ensures.played sinks_first sound_first _ h.going))

pub returns-in_err-check_full-clause-plays : goal.returns-in_err-check_full-clause-plays
returns-in_err-check_full-clause-plays g c = λ first sinks_first sound_first left_first h.
    let taken = g.R.Sink.taken in
    let faults = g.R.Sink.faults in
    let n : ℕ = c.next-count.result in
    let d = c.do_blocks.new in
    let sound = g.O.Sink.taken d.sound in
    let left = g.T.Pulse.left c.args.pulse.now in
    let next = g.T.Pulse.left c.next-count.new.self in
    let r = c.from_residual-in_err-check_full in
    let halt = c.in_err-check_full.field-0.0 in
    let turned = c.do_blocks.ensures.turns ∙ (c.put_turn.ensures ∙ ap (λ (ts : List Turn). ts ++ Ticks n ∷ []) c.make_room.ensures.same) in
    let plays = plays_blocks taken faults first sinks_first d.sinks sound_first sound left_first left next c.args.self.now d.self n h.acts h.done h.goes_on turned (ap end_of c.do_blocks.ensures.outlet) (omega (arith, c.if-count-eq0.false)) c.next-count.ensures.left
    (c.in_ok-do_blocks.ensures.played sinks_first sound_first _ h.going) in
    halted_asked taken faults first sinks_first d.sinks sound_first sound left_first next d.self r.result halt r.ensures.1
    (subst (HasHalted taken faults first sinks_first d.sinks sound_first sound false left_first next d.self) (sym c.in_err-check_full.ensures.full.0) (halts_full taken faults first sinks_first d.sinks sound_first sound false left_first next d.self plays))

pub returns-clause-plays : goal.returns-clause-plays
returns-clause-plays g c = λ first sinks_first sound_first left_first h.
    let n : ℕ = c.next-count.result in
    let d = c.do_blocks.new in
    let left = g.T.Pulse.left c.args.pulse.now in
    let next = g.T.Pulse.left c.next-count.new.self in
    let turned = c.do_blocks.ensures.turns ∙ (c.put_turn.ensures ∙ ap (λ (ts : List Turn). ts ++ Ticks n ∷ []) c.make_room.ensures.same) in
    plays_blocks g.R.Sink.taken g.R.Sink.faults first sinks_first d.sinks sound_first (g.O.Sink.taken d.sound) left_first left next c.args.self.now d.self n h.acts h.done h.goes_on turned (ap end_of c.do_blocks.ensures.outlet) (omega (arith, c.if-count-eq0.false))
    c.next-count.ensures.left (c.in_ok-do_blocks.ensures.played sinks_first sound_first _ h.going)

-- ---- what the calls need

pub do_blocks-requires-clause-settled : goal.do_blocks-requires-clause-settled
do_blocks-requires-clause-settled g c κs lives = c.requires.steady.settled

pub do_blocks-requires-clause-block : goal.do_blocks-requires-clause-block
do_blocks-requires-clause-block g c = omega (arith, c.requires.steady.block, c.requires.steady.few, c.ranges.most, c.next-count.ensures.bound)

pub do_blocks-requires-clause-sinks : goal.do_blocks-requires-clause-sinks
do_blocks-requires-clause-sinks g c κs lives = sym c.requires.steady.clients

pub do_blocks-requires-clause-flags : goal.do_blocks-requires-clause-flags
do_blocks-requires-clause-flags g c κs lives = c.requires.steady.flags ∙ sym c.requires.steady.clients

pub check_full-requires : goal.check_full-requires
check_full-requires g c =
    let turned = c.do_blocks.ensures.turns ∙ (c.put_turn.ensures ∙ ap (λ (ts : List Turn). ts ++ Ticks c.next-count.result ∷ []) c.make_room.ensures.same) in
    record { few = omega (arith, ap length turned, length-append c.args.self.now.turns.items (Ticks c.next-count.result ∷ []), c.requires.steady.few) }

-- ---- what it leaves

pub returns-then-count-eq0-clause-steady : goal.returns-then-count-eq0-clause-steady
returns-then-count-eq0-clause-steady g c = steady_same c.args.most (length c.args.sinks.now) c.args.self.now _ c.requires.steady (record { engine = refl; failed = refl; turns = c.make_room.ensures.same; end = refl })

pub returns-clause-steady : goal.returns-clause-steady
returns-clause-steady g c =
    let n : ℕ = c.next-count.result in
    let d = c.do_blocks.new in
    let turned = c.do_blocks.ensures.turns ∙ (c.put_turn.ensures ∙ ap (λ (ts : List Turn). ts ++ Ticks n ∷ []) c.make_room.ensures.same) in
    let stands = c.in_ok-do_blocks.ensures.stands in
    subst (λ (k : ℕ). IsSteady c.args.most k d.self) (sym c.do_blocks.ensures.sinks)
    (steady_blocks c.args.most (length c.args.sinks.now) c.args.self.now d.self n c.requires.steady turned c.next-count.ensures.bound stands.settled stands.block stands.puts stands.clients stands.flags c.in_ok-check_full.ensures.ok)

pub returns-in_err-do_blocks-clause-few : goal.returns-in_err-do_blocks-clause-few
returns-in_err-do_blocks-clause-few g c =
    let turned = c.do_blocks.ensures.turns ∙ (c.put_turn.ensures ∙ ap (λ (ts : List Turn). ts ++ Ticks c.next-count.result ∷ []) c.make_room.ensures.same) in
    omega (arith, ap length turned, length-append c.args.self.now.turns.items (Ticks c.next-count.result ∷ []), c.requires.steady.few)

-- ---- what it counts

pub returns-in_err-make_room-clause-counted : goal.returns-in_err-make_room-clause-counted
returns-in_err-make_room-clause-counted g c =
    let before = g.O.Sink.faults c.args.sound.now in
    counted_so c.from_residual.result halts.NoMemory before before c.from_residual.ensures.1 refl

pub returns-in_err-do_blocks-clause-counted : goal.returns-in_err-do_blocks-clause-counted
returns-in_err-do_blocks-clause-counted g c =
    let r = c.from_residual-in_err-do_blocks in
    counted_so r.result c.in_err-do_blocks.field-0.0 (g.O.Sink.faults c.args.sound.now) (g.O.Sink.faults c.do_blocks.new.sound) r.ensures.1 c.in_err-do_blocks.ensures.counted

pub returns-in_err-check_full-clause-counted : goal.returns-in_err-check_full-clause-counted
returns-in_err-check_full-clause-counted g c =
    let r = c.from_residual-in_err-check_full in
    let before = g.O.Sink.faults c.args.sound.now in
    let now = g.O.Sink.faults c.do_blocks.new.sound in
    counted_so r.result c.in_err-check_full.field-0.0 before now r.ensures.1
    (subst (λ (h : Halt). CountedAt h before now) (sym c.in_err-check_full.ensures.full.0) c.in_ok-do_blocks.ensures.counted)

pub returns-in_err-make_room-clause-unasked : goal.returns-in_err-make_room-clause-unasked
returns-in_err-make_room-clause-unasked g c = on_any_err c.from_residual.result refl

pub returns-in_err-do_blocks-clause-unasked : goal.returns-in_err-do_blocks-clause-unasked
returns-in_err-do_blocks-clause-unasked g c = on_any_err c.from_residual-in_err-do_blocks.result (c.next-count.ensures.others (λ none. omega (arith, c.if-count-eq0.false, none)))

pub returns-in_err-check_full-clause-unasked : goal.returns-in_err-check_full-clause-unasked
returns-in_err-check_full-clause-unasked g c = on_any_err c.from_residual-in_err-check_full.result (c.next-count.ensures.others (λ none. omega (arith, c.if-count-eq0.false, none)))
