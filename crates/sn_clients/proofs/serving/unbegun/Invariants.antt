-- The first clients were stopped.
use Rattle.std.proofs.Common.{ℕ}
use Rattle.sn_clients.specs.declared.clients.Client.{Client}
use Rattle.sn_clients.specs.Seating.{IsStopped}
use Rattle.sn_clients.proofs.ClientLemmas.{AreChanged}
use Rattle.sn_clients.proofs.serving.unbegun.Given as goal

abbrev pub invariant-loop-at : goal.invariant-loop-at
invariant-loop-at g l = AreChanged (λ (c : ℕ) (old new : Client g.row.S.Denot). IsStopped old new) l.fn.clients l.clients l.at
