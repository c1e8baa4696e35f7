use Rattle.std.proofs.Common.{◌≡◌, [], length, rules, sym, subst, ap}
use Rattle.sn_clients.specs.Answers.{AreNewInlets}
use Rattle.sn_clients.specs.Ends.{clients_in}
use Rattle.sn_clients.proofs.Opening.{inlets_more, none_made, outlet_more}
use Rattle.sn_clients.proofs.seats.Relay.make_inlets.Goals as goal

pub loop-client-init : goal.loop-client-init
loop-client-init c =
    let empty : c.new-inlets.result.items ≡ [] = search rules in
    record { inlets = subst (AreNewInlets c.args.self.now) (sym empty) (none_made c.args.self.now); count = ap length empty; outlet = c.requires.outlet }

pub make_inlet-inlet-requires-clause-outlet : goal.make_inlet-inlet-requires-clause-outlet
make_inlet-inlet-requires-clause-outlet c = c.loop-client.invariant.outlet.outlet_of

pub make_inlet-inlet-requires-clause-next : goal.make_inlet-inlet-requires-clause-next
make_inlet-inlet-requires-clause-next c = ap clients_in c.loop-client.invariant.outlet.nothing

pub loop-client-preserved : goal.loop-client-preserved
loop-client-preserved c =
    let i = c.loop-client.invariant in
    let e = c.make_inlet-inlet.ensures in
    let made = inlets_more _ _ _ _ _ (search rules) i.inlets i.count e.inlet in
    record { inlets = made.0; count = made.1; outlet = outlet_more _ _ _ _ i.outlet e.outlet e.end e.stopped }
