use Rattle.std.proofs.Common.{◌≡◌, ◌∙◌, ◌<◌, [], List, ℕ, length, ap, refl, sym, subst, arith, false}
use Rattle.std.specs.Prelude.{slice_index_or}
use Rattle.sn_engine.specs.Running.{Running}
use Rattle.sn_clients.specs.Written.{Sends}
use Rattle.sn_clients.proofs.SendLemmas.{all_sent, cleared_all, cleared_at, cleared_length, clears_next, sends_next, sends_none}
use Rattle.sn_clients.proofs.playing.send_all.Goals as goal

pub loop-client-init : goal.loop-client-init
loop-client-init g c = record { engine = refl; sending = sends_none g.R.Sink.taken g.R.Sink.faults c.args.sinks.now c.args.failed.now c.args.engine.now.running.replies }

pub bounds-sinks-at : goal.bounds-sinks-at
bounds-sinks-at g c = omega (arith, c.loop-client-test.true, c.clients-client-end.ensures, c.requires.sinks, c.loop-client.invariant.sending.sinks)

pub bounds-failed-at : goal.bounds-failed-at
bounds-failed-at g c = omega (arith, c.loop-client-test.true, c.clients-client-end.ensures, c.requires.flags, c.loop-client.invariant.sending.flags)

pub send_to-requires : goal.send_to-requires
send_to-requires g c =
    let l = c.loop-client in
    let rs = c.args.engine.now.running.replies in
    record { client = omega (arith, c.loop-client-test.true, c.clients-client-end.ensures, ap (λ (r : Running). length r.replies) l.invariant.engine, cleared_length l.client rs) }

pub loop-client-preserved : goal.loop-client-preserved
loop-client-preserved g c =
    let l = c.loop-client in
    let i = l.invariant in
    let n = c.send_to.new in
    let k = l.client in
    let old = c.args.engine.now.running in
    let rs = old.replies in
    let within : k < length rs = omega (arith, c.loop-client-test.true, c.clients-client-end.ensures) in
    let taken = g.R.Sink.taken in
    let faults = g.R.Sink.faults in
    let was = c.index-sinks-at.result in
    let sent = subst (λ (said : List ℕ). Sends (slice_index_or l.failed k false) n.failed (taken (slice_index_or l.sinks k was)) (taken n.sink) (faults (slice_index_or l.sinks k was)) (faults n.sink) said)
    (ap (λ (r : Running). slice_index_or r.replies k []) i.engine ∙ cleared_at k rs) c.send_to.ensures.sent in
    record {
      engine = clears_next old l.engine.running n.engine.running k i.engine c.send_to.ensures.kept within;
      sending = sends_next taken faults c.args.sinks.now l.sinks _ c.args.failed.now l.failed _ rs k was n.sink false n.failed i.sending (omega (arith, within, c.requires.sinks)) (c.requires.flags ∙ sym c.requires.sinks) refl refl sent;
    }

pub returns-clause-sent : goal.returns-clause-sent
returns-clause-sent g c =
    let l = c.loop-client in
    let rs = c.args.engine.now.running.replies in
    all_sent g.R.Sink.taken g.R.Sink.faults c.args.sinks.now l.sinks c.args.failed.now l.failed rs l.client l.invariant.sending (omega (arith, c.loop-client-test.false, l.auto, c.clients-client-end.ensures)) c.requires.sinks c.requires.flags

pub returns-clause-kept : goal.returns-clause-kept
returns-clause-kept g c =
    let l = c.loop-client in
    let old = c.args.engine.now.running in
    let all : l.client ≡ length old.replies = omega (arith, c.loop-client-test.false, l.auto, c.clients-client-end.ensures) in
    l.invariant.engine ∙ ap (λ (rs : List (List ℕ)). record old { replies = rs }) (cleared_all l.client old.replies all)
