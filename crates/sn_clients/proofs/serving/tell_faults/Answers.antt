use Rattle.std.proofs.Common.{◌≡◌, ◌∙◌, ◌<◌, ℕ, Bool, ap, false, refl, arith}
use Rattle.std.specs.Prelude.{slice_index_or}
use Rattle.sn_clients.specs.declared.clients.Client.{Client}
use Rattle.sn_clients.specs.Seating.{told}
use Rattle.sn_clients.proofs.ClientLemmas.{next_changed, none_changed}
use Rattle.sn_clients.proofs.serving.tell_faults.Goals as goal

pub loop-at-init : goal.loop-at-init
loop-at-init g c = none_changed (λ (k : ℕ) (old new : Client g.row.S.Denot). new ≡ told (slice_index_or c.args.failed.now k false) old) c.args.clients.now

pub bounds-clients-at : goal.bounds-clients-at
bounds-clients-at g c = omega (arith, c.loop-at-test.true, c.loop-at.invariant.count)

pub loop-at-preserved : goal.loop-at-preserved
loop-at-preserved g c =
    let l = c.loop-at in
    let was = c.index-clients-at.result in
    next_changed (λ (k : ℕ) (old new : Client g.row.S.Denot). new ≡ told (slice_index_or c.args.failed.now k false) old) c.args.clients.now l.clients _ l.at was c.tell_fault.new.client l.invariant (omega (arith, c.loop-at-test.true)) refl
    (c.tell_fault.ensures ∙ ap (λ (failed : Bool). told failed (slice_index_or l.clients l.at was)) c.is_set.ensures)

pub returns-clause-told : goal.returns-clause-told
returns-clause-told g c = λ k d inside.
    let l = c.loop-at in
    let within : k < l.at = omega (arith, inside, c.loop-at-test.false, l.auto) in
    l.invariant.changed k d within

pub returns-clause-count : goal.returns-clause-count
returns-clause-count g c = c.loop-at.invariant.count
