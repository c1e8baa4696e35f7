-- The first clients were given their inlets, and the others are left.
use Rattle.std.proofs.Common.{◌≡◌, ◌+◌, drop, length}
use Rattle.sn_clients.proofs.ClientLemmas.{AreChanged, IsGiven}
use Rattle.sn_clients.proofs.serving.seat_all.Given as goal

abbrev pub invariant-loop-inlet : goal.invariant-loop-inlet
invariant-loop-inlet g l = record {
  left : l.inlet-iterator.rest.items ≡ drop l.at l.fn.inlets.items;
  within : l.at + length l.inlet-iterator.rest.items ≡ length l.fn.inlets.items;
  given : AreChanged (IsGiven l.fn.inlets.items) l.fn.clients l.clients l.at;
}
