-- No journal is open, and what is held is live.
use Rattle.std.proofs.Common.{◌≡◌, None}
use Rattle.sn_calls.specs.Holding.{AreLive}
use Rattle.sn_calls.proofs.pools.compared.Given as goal

abbrev pub invariant-loop : goal.invariant-loop
invariant-loop l = (l.pool.journal ≡ None) × AreLive l.held.items l.pool.live
