-- The inlets of the first clients were gathered.
use Rattle.std.proofs.Common.{◌≡◌}
use Rattle.sn_clients.specs.Answers.{IsOutletOf, end_of, has_stopped}
use Rattle.sn_clients.specs.Delivery.{AreFronts}
use Rattle.sn_clients.specs.Ends.{clients_in, gathered_in, taken_in}
use Rattle.sn_clients.proofs.ClientLemmas.{AreGathered}
use Rattle.sn_clients.proofs.serving.gather_all.Given as goal

abbrev pub invariant-loop-at : goal.invariant-loop-at
invariant-loop-at g l = record {
  outlet : IsOutletOf l.relay l.outlet;
  gathered : AreGathered (has_stopped l.fn.outlet) l.fn.clients l.clients (gathered_in (end_of l.outlet)) l.at;
  fronts : AreFronts (end_of l.outlet);
  taken : taken_in (end_of l.outlet) ≡ taken_in (end_of l.fn.outlet);
  clients : clients_in (end_of l.outlet) ≡ clients_in (end_of l.fn.outlet);
  stopped : has_stopped l.outlet ≡ has_stopped l.fn.outlet;
}
