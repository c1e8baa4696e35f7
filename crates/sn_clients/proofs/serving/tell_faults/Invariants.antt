-- The first clients were told.
use Rattle.std.proofs.Common.{◌≡◌, ℕ, false}
use Rattle.std.specs.Prelude.{slice_index_or}
use Rattle.sn_clients.specs.declared.clients.Client.{Client}
use Rattle.sn_clients.specs.Seating.{told}
use Rattle.sn_clients.proofs.ClientLemmas.{AreChanged}
use Rattle.sn_clients.proofs.serving.tell_faults.Given as goal

abbrev pub invariant-loop-at : goal.invariant-loop-at
invariant-loop-at g l = AreChanged (λ (c : ℕ) (old new : Client g.row.S.Denot). new ≡ told (slice_index_or l.failed c false) old) l.fn.clients l.clients l.at
