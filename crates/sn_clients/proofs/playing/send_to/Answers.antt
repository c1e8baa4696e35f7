use Rattle.std.proofs.Common.{Bool, [], refl, subst, sym}
use Rattle.std.specs.Prelude.{is_err, slice_index_or}
use Rattle.sn_clients.specs.Written.{Sends}
use Rattle.sn_clients.proofs.WrittenLemmas.{drained}
use Rattle.sn_clients.proofs.playing.send_to.Goals as goal

pub returns-then-failed-clause-sent : goal.returns-then-failed-clause-sent
returns-then-failed-clause-sent g c =
    let said = slice_index_or c.args.engine.now.running.replies c.args.client [] in
    let taken = g.R.Sink.taken c.args.sink.now in
    let faults = g.R.Sink.faults c.args.sink.now in
    subst (λ (b : Bool). Sends b c.args.failed.now taken taken faults faults said) (sym c.if-failed.true) (c.if-failed.true, refl, refl)

pub returns-clause-sent : goal.returns-clause-sent
returns-clause-sent g c =
    let said = slice_index_or c.args.engine.now.running.replies c.args.client [] in
    let d = c.drain_replies in
    let taken = g.R.Sink.taken in
    let faults = g.R.Sink.faults in
    let sent = subst (λ (b : Bool). Sends b (is_err d.result) (taken c.args.sink.now) (taken d.new.sink) (faults c.args.sink.now) (faults d.new.sink) said) (sym c.if-failed.false)
    (drained d.result (taken c.args.sink.now) (taken d.new.sink) (faults c.args.sink.now) (faults d.new.sink) said d.ensures.taken d.ensures.cause d.ensures.unfailed) in
    subst (λ (b : Bool). Sends c.args.failed.now b (taken c.args.sink.now) (taken d.new.sink) (faults c.args.sink.now) (faults d.new.sink) said) (sym c.is_err.ensures.value) sent
