use Rattle.std.proofs.Common.{◌∙◌, subst, arith}
use Rattle.crossbeam_queue.specs.Passes.{view}
use Rattle.sn_clients.specs.declared.ends.End.{End}
use Rattle.sn_clients.specs.Ends.{sender_in}
use Rattle.sn_clients.specs.Delivery.{Moment}
use Rattle.sn_clients.proofs.Moves.{are_front, gathers, outlet_sees}
use Rattle.sn_clients.proofs.StopMoves.{hears, joins, told}
use Rattle.sn_clients.proofs.seats.Relay.gather.Goals as goal

pub absorb-requires-clause-rule : goal.absorb-requires-clause-rule
absorb-requires-clause-rule c =
    let outlet = c.args.outlet.now in
    let inlet = c.args.inlet in
    gathers outlet.pass.id (view outlet.pass) inlet.pass.id inlet.client inlet.count (view inlet.pass) outlet.first inlet.knows

pub learn_as-requires-clause-rule : goal.learn_as-requires-clause-rule
learn_as-requires-clause-rule c = outlet_sees c.absorb.new.pass.id (view c.absorb.new.pass) (c.absorb.ensures.queue.1 ∙ c.args.outlet.now.first)

pub join_seat-requires : goal.join_seat-requires
join_seat-requires c =
    let t = c.args.self.now in
    let outlet = c.args.outlet.now in
    let inlet = c.args.inlet in
    (c.requires.outlet.1, c.requires.inlet.1, inlet.bare, omega (arith, t.one_word), joins outlet.seat.id outlet.seat.me.0 inlet.seat.id inlet.seat.me.0 outlet.setter inlet.finder)

pub load-requires : goal.load-requires
load-requires c =
    let t = c.args.self.now in
    let seat = c.join_seat.new.seat in
    (c.join_seat.ensures.0 ∙ c.requires.outlet.1, omega (arith, t.one_word), hears t.stop.shared.table_id.slots seat.id seat.me (c.join_seat.ensures.1 ∙ c.args.outlet.now.setter))

pub returns-clause-front : goal.returns-clause-front
returns-clause-front c =
    let known = c.learn_as.ensures.rule in
    are_front (view c.args.outlet.now.pass) (sender_in (view c.args.inlet.pass)) (known.0, subst (λ (e : End). Moment 0 e known.0) c.absorb.ensures.rule known.1)

pub returns-clause-found : goal.returns-clause-found
returns-clause-found c e = told c.args.outlet.now.seat.me.0 c.args.inlet.seat.me.0 c.join_seat.new.seat.me c.args.outlet.now.seat.me.1 c.join_seat.ensures.2 c.load.ensures.2.1 e
