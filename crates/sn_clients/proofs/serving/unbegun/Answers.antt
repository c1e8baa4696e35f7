use Rattle.std.proofs.Common.{◌<◌, ℕ, ap, refl, arith}
use Rattle.sn_clients.specs.declared.clients.Client.{Client}
use Rattle.sn_clients.specs.Seating.{IsStopped}
use Rattle.sn_clients.proofs.ClientLemmas.{next_changed, none_changed}
use Rattle.sn_clients.proofs.serving.unbegun.Goals as goal

pub loop-at-init : goal.loop-at-init
loop-at-init g c = none_changed (λ (k : ℕ) (old new : Client g.row.S.Denot). IsStopped old new) c.args.clients.now

pub bounds-clients-at : goal.bounds-clients-at
bounds-clients-at g c = omega (arith, c.loop-at-test.true, c.loop-at.invariant.count)

pub loop-at-preserved : goal.loop-at-preserved
loop-at-preserved g c =
    let l = c.loop-at in
    let was = c.index-clients-at.result in
    let stopped = c.stop.ensures in
    next_changed (λ (k : ℕ) (old new : Client g.row.S.Denot). IsStopped old new) c.args.clients.now l.clients _ l.at was c.stop.new.self l.invariant (omega (arith, c.loop-at-test.true)) refl
    (record { source = ap (λ (client : Client g.row.S.Denot). client.source) stopped; read = ap (λ (client : Client g.row.S.Denot). client.read) stopped; end = ap (λ (client : Client g.row.S.Denot). client.end) stopped })

pub returns-clause-stopped : goal.returns-clause-stopped
returns-clause-stopped g c = λ k d inside.
    let l = c.loop-at in
    let within : k < l.at = omega (arith, inside, c.loop-at-test.false, l.auto) in
    l.invariant.changed k d within

pub returns-clause-count : goal.returns-clause-count
returns-clause-count g c = c.loop-at.invariant.count
