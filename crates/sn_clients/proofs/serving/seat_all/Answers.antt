use Rattle.std.proofs.Common.{◌≡◌, ◌∙◌, ◌<◌, ap, length, refl, sym, arith, rules}
use Rattle.sn_clients.proofs.ClientLemmas.{IsGiven, at_front, is_seated, next_changed, none_changed}
use Rattle.sn_clients.proofs.serving.seat_all.Goals as goal

pub loop-inlet-init : goal.loop-inlet-init
loop-inlet-init g c =
    let same : c.into_iter-inlet-iterator.result.rest.items ≡ c.args.inlets.items = search rules in
    record { left = same; within = omega (arith, ap length same); given = none_changed (IsGiven c.args.inlets.items) c.args.clients.now }

pub bounds-clients-at : goal.bounds-clients-at
bounds-clients-at g c = omega (arith, c.loop-inlet.invariant.given.count, c.loop-inlet.invariant.within, ap length c.in-Some.ensures.steps.0, c.requires)

pub loop-inlet-preserved : goal.loop-inlet-preserved
loop-inlet-preserved g c =
    let l = c.loop-inlet in
    let i = l.invariant in
    let inlets = c.args.inlets.items in
    let was = c.index-clients-at.result in
    let steps = c.in-Some.ensures.steps.0 in
    let front = at_front inlets l.at c.in-Some.inlet c.next.new.self.rest.items (sym i.left ∙ steps) in
    record {
      left = sym front.1;
      within = omega (arith, i.within, ap length steps);
      given = next_changed (IsGiven inlets) c.args.clients.now l.clients _ l.at was c.seat.new.self i.given (omega (arith, i.within, ap length steps, c.requires)) refl (record { inlet = c.in-Some.inlet; stands = front.0; given = c.seat.ensures });
    }

pub returns-clause-seated : goal.returns-clause-seated
returns-clause-seated g c = λ relay fresh k d inside.
    let l = c.loop-inlet in
    let i = l.invariant in
    let within : k < l.at = omega (arith, inside, i.within, c.requires, c.in-None.ensures.steps.0, l.inlet-iterator.rest.ok.0) in
    is_seated relay c.args.inlets.items k _ _ fresh (i.given.changed k d within)

pub returns-clause-count : goal.returns-clause-count
returns-clause-count g c = c.loop-inlet.invariant.given.count
