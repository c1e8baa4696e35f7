use Rattle.std.proofs.Common.{◌≡◌, ◌∙◌, Bool, List, Ok, Result, ap, length, subst, sym, rules}
use Rattle.std.specs.Vec.{with_items}
use Rattle.std.proofs.lemmas.List.{with_items_is, places}
use Rattle.sn_clients.specs.Looping.{HaltsAt, PlaysTo}
use Rattle.sn_clients.specs.PlayMany.{ticks}
use Rattle.sn_clients.specs.Written.{IsGoing}
use Rattle.sn_clients.proofs.FaultLemmas.{counted_so}
use Rattle.sn_clients.proofs.TickLemmas.{halted_plays}
use Rattle.sn_clients.proofs.desk.Desk.do_blocks.Goals as goal

pub returns-in_err-play_blocks-clause-played : goal.returns-in_err-play_blocks-clause-played
returns-in_err-play_blocks-clause-played g c = λ sinks_first sound_first r h.
    let taken = g.R.Sink.taken in
    let faults = g.R.Sink.faults in
    let old = c.args.self.now in
    let n = c.play_blocks.new in
    let now : List Bool = n.failed in
    let is : (with_items old.failed now).items ≡ now = with_items_is old.failed now (search (rules, places)) in
    let first : c.deref_mut.result.now ≡ old.failed.items = search rules in
    let sound = g.O.Sink.taken n.sound in
    let halt = c.in_err-play_blocks.field-0.0 in
    let p = ticks c.args.count r in
    let begun : IsGoing taken faults sinks_first c.args.sinks.now c.deref_mut.result.now sound_first (g.O.Sink.taken c.args.sound.now) r old.engine.running = subst (λ (failed : List Bool). IsGoing taken faults sinks_first c.args.sinks.now failed sound_first (g.O.Sink.taken c.args.sound.now) r old.engine.running) (sym first) h in
    halted_plays taken faults sinks_first n.sinks _ sound_first sound p n.engine.running c.from_residual.result halt c.from_residual.ensures.1
    (subst (λ (failed : List Bool). HaltsAt taken faults sinks_first n.sinks failed sound_first sound p halt) (sym is) (c.in_err-play_blocks.ensures.played sinks_first sound_first r begun))

pub returns-clause-played : goal.returns-clause-played
returns-clause-played g c = λ sinks_first sound_first r h.
    let taken = g.R.Sink.taken in
    let faults = g.R.Sink.faults in
    let old = c.args.self.now in
    let n = c.play_blocks.new in
    let now : List Bool = n.failed in
    let is : (with_items old.failed now).items ≡ now = with_items_is old.failed now (search (rules, places)) in
    let first : c.deref_mut.result.now ≡ old.failed.items = search rules in
    let sound = g.O.Sink.taken n.sound in
    let p = ticks c.args.count r in
    let begun : IsGoing taken faults sinks_first c.args.sinks.now c.deref_mut.result.now sound_first (g.O.Sink.taken c.args.sound.now) r old.engine.running = subst (λ (failed : List Bool). IsGoing taken faults sinks_first c.args.sinks.now failed sound_first (g.O.Sink.taken c.args.sound.now) r old.engine.running) (sym first) h in
    subst (λ (failed : List Bool). PlaysTo taken faults sinks_first n.sinks failed sound_first sound p n.engine.running (Ok tt)) (sym is) (c.in_ok-play_blocks.ensures.played sinks_first sound_first r begun)

pub returns-clause-stands : goal.returns-clause-stands
returns-clause-stands g c =
    let old = c.args.self.now in
    let now : List Bool = c.play_blocks.new.failed in
    let is : (with_items old.failed now).items ≡ now = with_items_is old.failed now (search (rules, places)) in
    let first : c.deref_mut.result.now ≡ old.failed.items = search rules in
    let e = c.in_ok-play_blocks.ensures in
    record { settled = e.settled; block = e.block; puts = e.puts; clients = e.clients; flags = ap length is ∙ e.flags ∙ ap length first }

pub returns-in_err-play_blocks-clause-counted : goal.returns-in_err-play_blocks-clause-counted
returns-in_err-play_blocks-clause-counted g c =
    let before = g.O.Sink.faults c.args.sound.now in
    counted_so c.from_residual.result c.in_err-play_blocks.field-0.0 before (g.O.Sink.faults c.play_blocks.new.sound) c.from_residual.ensures.1 c.in_err-play_blocks.ensures.counted
