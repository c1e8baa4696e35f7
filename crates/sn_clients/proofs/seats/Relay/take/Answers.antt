use Rattle.crossbeam_queue.specs.Passes.{view}
use Rattle.sn_clients.specs.Delivery.{Taken}
use Rattle.sn_clients.proofs.Moves.{none_left, none_waits, outlet_sees, takes}
use Rattle.sn_clients.proofs.seats.Relay.take.Goals as goal

pub pop_as-requires-clause-rule : goal.pop_as-requires-clause-rule
pop_as-requires-clause-rule g c =
    let pass = c.args.outlet.now.pass in
    let first = c.args.outlet.now.first in
    (takes pass.id (view pass) first, outlet_sees pass.id (view pass) first)

pub returns-clause-moment : goal.returns-clause-moment
returns-clause-moment g c =
    let old = view c.args.outlet.now.pass in
    let new = view c.pop_as.new.pass in
    none_waits c.pop_as.result old new (λ x. Taken old x new) c.pop_as.ensures.rule

pub returns-clause-empty : goal.returns-clause-empty
returns-clause-empty g c =
    let old = view c.args.outlet.now.pass in
    let new = view c.pop_as.new.pass in
    none_left c.pop_as.result old new (λ x. Taken old x new) c.pop_as.ensures.rule
