use Rattle.std.proofs.Common.{◌≡◌, length}
use Rattle.sn_clients.specs.Answers.{AreNewInlets, IsNewOutlet}
use Rattle.sn_clients.proofs.seats.Relay.make_inlets.Given as goal

abbrev pub invariant-loop-client : goal.invariant-loop-client
invariant-loop-client l = record {
  inlets : AreNewInlets l.self l.inlets.items;
  count : length l.inlets.items ≡ l.client;
  outlet : IsNewOutlet l.self l.client l.outlet;
}
